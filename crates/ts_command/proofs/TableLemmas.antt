-- Tables whose rows are mapped.
use Rattle.std.proofs.Common.{◌≡◌, ℕ, Bool, true, false, not, ◌&&◌, ◌||◌, if◌then◌else◌, List, [], ◌∷◌, ◌++◌, map, refl, sym, ap, subst, ◌∙◌}
use Rattle.std.proofs.lemmas.Bool.{false≢true}
use Rattle.std.specs.Prelude.{Option, None, Some, option_map, IfSome, IsTrue}
use Rattle.std.specs.Str.{bytes_eq, str_to_ascii_lowercase, str_eq_ignore_ascii_case}
use Rattle.std.proofs.lemmas.Slice.Eq.{bytes_eq-Decides}
use Rattle.ts_spec.specs.Key.{same}
use Rattle.ts_spec.specs.Names.{Table, named}
use Rattle.ts_spec.proofs.Keys.{same-true}

-- a choice seen in another way
chosen : {X Y : Type 0} (f : X → Y) (x : X) (test : Bool) (other : Option X) (seen : Option Y)
    → option_map f other ≡ seen → option_map f (if test then Some x else other) ≡ (if test then Some (f x) else seen)
chosen f x true other seen h = refl
chosen f x false other seen h = h

-- the row that a word names, seen in another way, is that of the table seen so
pub named-map : {X Y : Type 0} (f : X → Y) (table : Table X) (word : List ℕ) → option_map f (named table word) ≡ named (map (λ row. (row.0, f row.1)) table) word
named-map f [] word = refl
named-map f (row ∷ rows) word = chosen f row.1 (str_eq_ignore_ascii_case row.0 word) _ _ (named-map f rows word)

-- what is found in a table, and else in another one
abbrev pub found_else : {X : Type 0} → Option X → Option X → Option X
found_else None other = other
found_else (Some x) other = Some x

chosen-else : {X : Type 0} (x : X) (test : Bool) (front back whole : Option X)
    → found_else front back ≡ whole → found_else (if test then Some x else front) back ≡ (if test then Some x else whole)
chosen-else x true front back whole h = refl
chosen-else x false front back whole h = h

-- two tables, one looked through after the other, are one
named-append : {X : Type 0} (front back : Table X) (word : List ℕ) → found_else (named front word) (named back word) ≡ named (front ++ back) word
named-append [] back word = refl
named-append (row ∷ rows) back word = chosen-else row.1 (str_eq_ignore_ascii_case row.0 word) _ _ _ (named-append rows back word)

-- the same, with rows seen in another way
pub named-append-map : {X Y : Type 0} (f : X → Y) (front back : Table X) (word : List ℕ)
    → option_map f (found_else (named front word) (named back word)) ≡ named (map (λ row. (row.0, f row.1)) (front ++ back)) word
named-append-map f front back word = ap (option_map f) (named-append front back word) ∙ named-map f (front ++ back) word

-- this holds of each row whose name the word is
abbrev pub EachRow : {X : Type 0} → (holds : X → Type 0) → (word : List ℕ) → Table X → Type 0
EachRow holds word [] = Unit {0}
EachRow holds word (row ∷ rows) = (IsTrue (str_eq_ignore_ascii_case row.0 word) → holds row.1) × EachRow holds word rows

-- then it holds of what the word names
pub named-holds : {X : Type 0} (holds : X → Type 0) (word : List ℕ) (rows : Table X) → EachRow holds word rows → IfSome (named rows word) holds
named-holds holds word [] each = tt
named-holds holds word (row ∷ rows) each = go (str_eq_ignore_ascii_case row.0 word) each.0 (named-holds holds word rows each.1)
  where
    go : (b : Bool) → (IsTrue b → holds row.1) → IfSome (named rows word) holds → IfSome (if b then Some row.1 else named rows word) holds
    go true this rest = this refl
    go false this rest = rest

-- whether each row that is so has this name
abbrev pub each_named : {X : Type 0} → (is_so : X → Bool) → (name : List ℕ) → Table X → Bool
each_named is_so name [] = true
each_named is_so name (row ∷ rows) = (not (is_so row.1) || same row.0 name) && each_named is_so name rows

-- a row that has this name if it is so, and what holds of the others
first_row : (name found word : List ℕ) (so has rest : Bool) → same found name ≡ has → IsTrue ((not so || has) && rest)
    → (IsTrue (str_eq_ignore_ascii_case found word) → IsTrue so → IsTrue (str_eq_ignore_ascii_case name word)) × IsTrue rest
first_row name found word false has rest e h = (λ named so. absurd (false≢true so), h)
first_row name found word true true rest e h = (λ named so. subst (λ n. IsTrue (str_eq_ignore_ascii_case n word)) (same-true found name e) named, h)
first_row name found word true false rest e h = absurd (false≢true h)

-- what each row says of a word
each_row : {X : Type 0} (is_so : X → Bool) (name word : List ℕ) (rows : Table X)
    → IsTrue (each_named is_so name rows) → EachRow (λ x. IsTrue (is_so x) → IsTrue (str_eq_ignore_ascii_case name word)) word rows
each_row is_so name word [] each = tt
each_row is_so name word (row ∷ rows) each =
    let split = first_row name row.0 word (is_so row.1) (same row.0 name) (each_named is_so name rows) refl each in
    (split.0, each_row is_so name word rows split.1)

-- then a word that names one that is so is this name
pub named-so : {X : Type 0} (is_so : X → Bool) (name word : List ℕ) (rows : Table X)
    → IsTrue (each_named is_so name rows) → IfSome (named rows word) (λ x. IsTrue (is_so x) → IsTrue (str_eq_ignore_ascii_case name word))
named-so is_so name word rows each =
    named-holds (λ x. IsTrue (is_so x) → IsTrue (str_eq_ignore_ascii_case name word)) word rows (each_row is_so name word rows each)

-- words that differ only in the case of their letters name the same
named-alike : {X : Type 0} (name word : List ℕ) (table : Table X) → str_to_ascii_lowercase word ≡ str_to_ascii_lowercase name → named table word ≡ named table name
named-alike name word [] alike = refl
named-alike name word (row ∷ rows) alike =
    ap (λ l. if bytes_eq (str_to_ascii_lowercase row.0) l then Some row.1 else named rows word) alike
    ∙ ap (λ found. if str_eq_ignore_ascii_case row.0 name then Some row.1 else found) (named-alike name word rows alike)

-- what a word names that is this name
pub named-as : {X : Type 0} (name word : List ℕ) (table : Table X) → IsTrue (str_eq_ignore_ascii_case name word) → named table word ≡ named table name
named-as name word table is =
    named-alike name word table (sym ((bytes_eq-Decides (str_to_ascii_lowercase name) (str_to_ascii_lowercase word)).0 is))
