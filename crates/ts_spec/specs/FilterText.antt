-- The syntax of label filters: `label=value`, `label!=value`, and lists such as `label=(a,b)`.
use Rattle.std.specs.Prelude.{ℕ, Bool, true, false, ◌==◌, if◌then◌else◌, List, [], ◌∷◌, Option, Some, None, option_map, Result, Ok, Err}
use Rattle.ts_spec.specs.Filter.{Filter, OneOf, NoneOf, Absent, Present}

-- why a text is not a valid filter
pub data FilterFault : Type 0 where
  -- there is no `=` in the text
  NoOperator : FilterFault
  EmptyLabel : FilterFault
  -- the list has an empty value
  EmptyList : FilterFault

-- ---- bytes

-- `=`, which separates the label from its values
abbrev pub equals : ℕ
equals = 61

-- `!`, which makes a filter negative in front of `=`
abbrev pub bang : ℕ
bang = 33

-- `(`, which opens a list of values
abbrev pub opening : ℕ
opening = 40

-- `)`, which closes a list of values
abbrev pub closing : ℕ
closing = 41

-- `,`, which separates the values of a list
abbrev pub comma : ℕ
comma = 44

-- ---- the parts of a text

-- prepends a byte to the part before the cut
abbrev pub before_cut : ℕ → Option (List ℕ × List ℕ) → Option (List ℕ × List ℕ)
before_cut c None = None
before_cut c (Some parts) = Some (c ∷ parts.0, parts.1)

-- the text before the first occurrence of the byte, and the text after it
abbrev pub cut_at : (byte : ℕ) → List ℕ → Option (List ℕ × List ℕ)
cut_at byte [] = None
cut_at byte (c ∷ cs) = if c == byte then Some ([], cs) else before_cut c (cut_at byte cs)

-- prepends a byte to the first piece
abbrev pub onto_first : ℕ → List (List ℕ) → List (List ℕ)
onto_first c [] = (c ∷ []) ∷ []
onto_first c (piece ∷ pieces) = (c ∷ piece) ∷ pieces

-- the pieces of a text split at each occurrence of the byte
abbrev pub pieces : (byte : ℕ) → List ℕ → List (List ℕ)
pieces byte [] = [] ∷ []
pieces byte (c ∷ cs) = if c == byte then [] ∷ pieces byte cs else onto_first c (pieces byte cs)

-- the text before its last byte, if that is this byte
abbrev pub before_last : (byte : ℕ) → List ℕ → Option (List ℕ)
before_last byte [] = None
before_last byte (c ∷ []) = if c == byte then Some [] else None
before_last byte (c ∷ d ∷ cs) = option_map (λ front. c ∷ front) (before_last byte (d ∷ cs))

-- whether one of the values is empty
abbrev pub has_empty : List (List ℕ) → Bool
has_empty [] = false
has_empty ([] ∷ values) = true
has_empty ((c ∷ cs) ∷ values) = has_empty values

-- the values of a bracketed list, split at commas; without a closing bracket at the end, the text is one value
abbrev pub bracketed : (text : List ℕ) → Option (List ℕ) → Result (List (List ℕ)) FilterFault
bracketed text None = Ok (text ∷ [])
bracketed text (Some inner) = if has_empty (pieces comma inner) then Err EmptyList else Ok (pieces comma inner)

-- the values of a filter: none, one, or a bracketed list
abbrev pub values_of : List ℕ → Result (List (List ℕ)) FilterFault
values_of [] = Ok []
values_of (c ∷ cs) = if c == opening then bracketed (c ∷ cs) (before_last closing cs) else Ok ((c ∷ cs) ∷ [])

-- the filter on a label with these values; without values, it tests only whether the series has the label
abbrev pub filter_by : (positive : Bool) → (label : List ℕ) → List (List ℕ) → Filter
filter_by true label [] = Absent label
filter_by true label (v ∷ vs) = OneOf label (v ∷ vs)
filter_by false label [] = Present label
filter_by false label (v ∷ vs) = NoneOf label (v ∷ vs)

-- the filter on a label, or the fault in its values
abbrev pub with_values : (positive : Bool) → (label : List ℕ) → Result (List (List ℕ)) FilterFault → Result Filter FilterFault
with_values positive label (Err fault) = Err fault
with_values positive label (Ok values) = Ok (filter_by positive label values)

-- the same; an empty label is a fault
abbrev pub of_label : (positive : Bool) → (label value : List ℕ) → Result Filter FilterFault
of_label positive [] value = Err EmptyLabel
of_label positive (c ∷ cs) value = with_values positive (c ∷ cs) (values_of value)

-- the filter of the text before and after `=`; it is negative if the text before ends with `!`
abbrev pub of_parts : (front value : List ℕ) → (negative : Option (List ℕ)) → Result Filter FilterFault
of_parts front value None = of_label true front value
of_parts front value (Some label) = of_label false label value

-- the filter of a text that was cut at `=`; a text without `=` is a fault
abbrev pub of_cut : Option (List ℕ × List ℕ) → Result Filter FilterFault
of_cut None = Err NoOperator
of_cut (Some parts) = of_parts parts.0 parts.1 (before_last bang parts.0)

-- parses a filter; the text is cut at its first `=`
unfoldable pub filter_of : List ℕ → Result Filter FilterFault
filter_of text = of_cut (cut_at equals text)
