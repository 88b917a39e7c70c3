-- Worked examples: parsing filters.
use Rattle.std.specs.Prelude.{◌≡◌, refl, [], ◌∷◌, codes, Ok, Err}
use Rattle.ts_spec.specs.Filter.{OneOf, NoneOf, Absent, Present}
use Rattle.ts_spec.specs.FilterText.{filter_of, NoOperator, EmptyLabel, EmptyList}

pub one_value : filter_of (codes "area=x") ≡ Ok (OneOf (codes "area") (codes "x" ∷ []))
unfolding filter_of
one_value = refl

pub several_values : filter_of (codes "area!=(x,y z)") ≡ Ok (NoneOf (codes "area") (codes "x" ∷ codes "y z" ∷ []))
unfolding filter_of
several_values = refl

pub no_value : filter_of (codes "area=") ≡ Ok (Absent (codes "area"))
unfolding filter_of
no_value = refl

pub any_value : filter_of (codes "area!=") ≡ Ok (Present (codes "area"))
unfolding filter_of
any_value = refl

pub cut_at_the_first : filter_of (codes "a=b!=(c") ≡ Ok (OneOf (codes "a") (codes "b!=(c" ∷ []))
unfolding filter_of
cut_at_the_first = refl

pub a_bracket_alone : filter_of (codes "a=(") ≡ Ok (OneOf (codes "a") (codes "(" ∷ []))
unfolding filter_of
a_bracket_alone = refl

pub no_sign : filter_of (codes "area") ≡ Err NoOperator
unfolding filter_of
no_sign = refl

pub no_label : filter_of (codes "!=x") ≡ Err EmptyLabel
unfolding filter_of
no_label = refl

pub an_empty_list : filter_of (codes "a=()") ≡ Err EmptyList
unfolding filter_of
an_empty_list = refl

pub an_empty_value : filter_of (codes "a=(x,,y)") ≡ Err EmptyList
unfolding filter_of
an_empty_value = refl
