-- Samples read one after another from bytes that may be anything.
use Rattle.std.proofs.Common.{◌≡◌, ◌≢◌, ℕ, ◌+◌, ◌*◌, ◌<◌, ◌≤◌, pos, List, [], ◌∷◌, ◌++◌, length, if◌then◌else◌, refl, sym, ap, ◌∙◌, subst, append_assoc, append-nil, arith, length-append}
use Rattle.std.specs.Prelude.{Option, None, Some, unwrap_or}
use Rattle.ts_spec.specs.Sample.{Point, IsAscending, first_of, last_of}
use Rattle.ts_sample.specs.Chunk.{AreInBounds, AreMade, IsChunk, IsLimit, IsPast}
use Rattle.ts_sample.specs.Sample.{IsInBounds}
use Rattle.ts_sample.proofs.Lists.{fine-append, fine-right, past-before, ascending-push}
use Rattle.ts_chunk_packed.specs.Chunk.{IsPacked}
use Rattle.ts_chunk_packed.specs.Laws.{three_or_more, three_each}
use Rattle.ts_chunk_packed.specs.Packed.{State, begin, next, coded, packed_from, packed, state_from, sample_of, samples_of}
use Rattle.ts_chunk_packed.specs.Reading.{Follows}
use Rattle.ts_chunk_packed.specs.Restoring.{AreCodedAs, HasRead}
use Rattle.ts_chunk_packed.proofs.Decoding.{sample_back}
use Rattle.ts_chunk_packed.proofs.Joining.{last-known}
use Rattle.ts_chunk_packed.proofs.Listing.{samples_back, past_before, packed-push, state-push}
use Rattle.ts_chunk_packed.proofs.Pushing.{first-push}

-- ---- bytes are those of one list alone

-- the list goes on with samples whose bytes these are
pub record GoesOn (s : State) (list : List Point) (rest : List ℕ) (all : List Point) : Type 0 where
  pub more : List Point
  pub whole : list ++ more ≡ all
  pub is : rest ≡ packed_from (state_from s list) more

-- the same bytes start with the same sample
pub same_sample : (s : State) (p q : Point) (rest others : List ℕ) → coded s p ++ rest ≡ coded s q ++ others → (p ≡ q) × (rest ≡ others)
same_sample s p q rest others same = (
  ap (λ (r : Point × List ℕ). r.0) (sym (sample_back s p rest)) ∙ ap (λ (l : List ℕ). (sample_of s l).0) same ∙ ap (λ (r : Point × List ℕ). r.0) (sample_back s q others),
  ap (λ (r : Point × List ℕ). r.1) (sym (sample_back s p rest)) ∙ ap (λ (l : List ℕ). (sample_of s l).1) same ∙ ap (λ (r : Point × List ℕ). r.1) (sample_back s q others),
)

-- where the bytes of a list are the front of those of another, that one goes on
goes_on : (s : State) (list : List Point) (rest : List ℕ) (all : List Point) → packed_from s list ++ rest ≡ packed_from s all → GoesOn s list rest all
goes_on s [] rest all same = record { more = all; whole = refl; is = same }
goes_on s (p ∷ list) rest [] same = absurd (omega (arith, ap length same, length-append (packed_from s (p ∷ list)) rest, three_each s (p ∷ list)))
goes_on s (p ∷ list) rest (q ∷ all) same =
    let apart : coded s p ++ (packed_from (next s p) list ++ rest) ≡ coded s q ++ packed_from (next s q) all = sym (append_assoc (coded s p) (packed_from (next s p) list) rest) ∙ same in
    let both = same_sample s p q (packed_from (next s p) list ++ rest) (packed_from (next s q) all) apart in
    let one : p ≡ q = both.0 in
    let rests : packed_from (next s p) list ++ rest ≡ packed_from (next s p) all = both.1 ∙ ap (λ (r : Point). packed_from (next s r) all) (sym one) in
    let on = goes_on (next s p) list rest all rests in
    record { more = on.more; whole = λ i. one i ∷ on.whole i; is = on.is }

-- ---- reading on

-- what holds of the samples that were read, where these bytes are left
pub record HasReadTo (bytes left : List ℕ) (first : Option Point) (s : State) (count made : ℕ) : Type 0 where
  pub list : List Point
  pub is : bytes ≡ packed list ++ left
  pub fine : AreInBounds list
  pub ascending : IsAscending list
  pub first_is : first ≡ first_of list
  pub state : s ≡ state_from begin list
  pub count_is : count ≡ length list
  pub made_to : AreMade made list

-- one sample more, where both bounds rise
made-push : (few most : ℕ) (ps : List Point) (p : Point) → few ≤ most → p.made ≤ most → AreMade few ps → AreMade most (ps ++ p ∷ [])
made-push few most [] p more here made = (here, tt)
made-push few most (q ∷ ps) p more here made = (omega (arith, made.0, more), made-push few most ps p more here made.1)

pub none_read : (bytes : List ℕ) (s : State) → s ≡ begin → HasReadTo bytes bytes None s 0 0
none_read bytes s is = record { list = []; is = refl; fine = tt; ascending = tt; first_is = refl; state = is; count_is = refl; made_to = tt }

-- the bytes that are left start with a sample past those that were read
pub record NextIs (s : State) (left : List ℕ) : Type 0 where
  pub follows : Follows s left
  pub past : IsPast (if s.begun then Some s.before else None) follows.sample.time

module _ {bytes left : List ℕ} {first : Option Point} {s : State} {count made : ℕ} (read : HasReadTo bytes left first s count made) where
  next_by : (all more : List Point) → read.list ++ more ≡ all → left ≡ packed_from (state_from begin read.list) more → AreCodedAs bytes all → 0 < length left
      → NextIs (state_from begin read.list) left
  next_by all [] whole is coded some = absurd (omega (arith, ap length is, some))
  next_by all (q ∷ more) whole is coded some =
      let past = past-before read.list q more (subst IsAscending (sym whole) coded.ascending) in
      record {
        follows = record {
          sample = q;
          rest = packed_from (next (state_from begin read.list) q) more;
          is = is;
          fine = (fine-right read.list (q ∷ more) (subst AreInBounds (sym whole) coded.fine)).0;
          later = past_before read.list q.time past;
        };
        past = subst (λ (o : Option Point). IsPast o q.time) (sym (last-known read.list)) past;
      }

  -- where the bytes are those of samples, and some are left
  pub next_is : (all : List Point) → AreCodedAs bytes all → 0 < length left → NextIs s left
  next_is all coded some =
      let on = goes_on begin read.list left all (sym read.is ∙ sym coded.is) in
      subst (λ (t : State). NextIs t left) (sym read.state) (next_by all on.more on.whole on.is coded some)

  -- the last sample is known
  last_is : (if s.begun then Some s.before else None) ≡ last_of read.list
  last_is = ap (λ (t : State). if t.begun then Some t.before else None) read.state ∙ last-known read.list

  -- fewer bytes are left after a sample
  pub shorter : (p : Point) (rest others : List ℕ) → left ≡ coded s p ++ rest → others ≡ rest → length others < length left
  shorter p rest others starts same =
      omega (arith, ap length starts, ap length same, length-append (coded s p) rest, three_each s (p ∷ []), ap length (append-nil (coded s p)))

  past_last : (t : ℕ) → IsPast (if s.begun then Some s.before else None) t → IsPast (last_of read.list) t
  past_last t past = subst (λ (o : Option Point). IsPast o t) last_is past

  pub not_before : (t : ℕ) → IsPast (if s.begun then Some s.before else None) t → s.before.time ≤ t
  not_before t past = subst (λ (x : State). x.before.time ≤ t) (sym read.state) (past_before read.list t (past_last t past))

  pub few : 3 * count ≤ length bytes
  few = omega (arith, three_or_more read.list, ap length read.is, length-append (packed read.list) left, read.count_is)

  -- with one sample more
  more_read : (p : Point) (rest : List ℕ) (head : Option Point) (t : State) (most : ℕ) → left ≡ coded s p ++ rest → IsInBounds p → IsPast (last_of read.list) p.time
      → head ≡ Some (unwrap_or first p) → t ≡ next s p → made ≤ most → p.made ≤ most → HasReadTo bytes rest head t (count + 1) most
  more_read p rest head t most starts fine past head_is after more here = record {
    list = read.list ++ p ∷ [];
    is =
        read.is ∙ ap (λ (l : List ℕ). packed read.list ++ l) (starts ∙ ap (λ (x : State). coded x p ++ rest) read.state)
        ∙ sym (append_assoc (packed read.list) (coded (state_from begin read.list) p) rest)
        ∙ ap (λ (l : List ℕ). l ++ rest) (sym (packed-push begin read.list p));
    fine = fine-append read.list (p ∷ []) read.fine (fine, tt);
    ascending = ascending-push read.list p read.ascending past;
    first_is = head_is ∙ first-push first read.list p read.first_is;
    state = after ∙ ap (λ (x : State). next x p) read.state ∙ sym (state-push begin read.list p);
    count_is = omega (arith, read.count_is, length-append read.list (p ∷ []));
    made_to = made-push made most read.list p more here read.made_to;
  }

  pub read_more : (p q : Point) (rest others : List ℕ) (head : Option Point) (t : State) (most : ℕ) → left ≡ coded s p ++ rest → q ≡ p → others ≡ rest → IsInBounds q
      → IsPast (if s.begun then Some s.before else None) p.time
      → head ≡ Some (unwrap_or first q) → t ≡ next s q → made ≤ most → p.made ≤ most → HasReadTo bytes others head t (count + 1) most
  read_more p q rest others head t most starts one same fine past head_is after more here =
      more_read q others head t most (starts ∙ (λ i. coded s (sym one i) ++ sym same i)) fine (subst (λ (x : Point). IsPast (last_of read.list) x.time) (sym one) (past_last p.time past)) head_is after more (omega (arith, here, ap (λ (x : Point). x.made) one))

  -- once none are left, all are read
  pub all_read : length left ≡ 0 → HasRead bytes first s count made
  all_read none = all_with left read.is none
    where
      all_with : (l : List ℕ) → bytes ≡ packed read.list ++ l → length l ≡ 0 → HasRead bytes first s count made
      all_with [] is none = record {
        list = read.list;
        coded = record { is = sym (append-nil (packed read.list)) ∙ sym is; fine = read.fine; ascending = read.ascending };
        first_is = read.first_is;
        state = read.state;
        count_is = read.count_is;
        made_to = read.made_to;
      }
      all_with (x ∷ xs) is none = absurd (omega arith)

-- ---- the chunk of what was read

module _ {bytes : List ℕ} {first : Option Point} {s : State} {count made : ℕ} (read : HasRead bytes first s count made) where
  pub samples_read : (written : List ℕ) → written ≡ bytes → samples_of count written ≡ read.list
  samples_read written same = (λ i. samples_of (read.count_is i) ((same ∙ sym read.coded.is) i)) ∙ samples_back read.list

  pub chunk_of : (limit capacity : ℕ) (written : List ℕ) (step : ℕ) (last : Option Point) → IsLimit limit → limit ≤ capacity → length bytes ≤ limit → written ≡ bytes → pos step ≡ s.step
      → last ≡ (if s.begun then Some s.before else None) → IsPacked limit capacity written count step first last
  chunk_of limit capacity written step last bounds room fits same step_is last_is =
      let all = samples_read written same in
      record {
        chunk = subst (IsChunk packed limit) (sym all) (record { bounds = bounds; ascending = read.coded.ascending; fine = read.coded.fine; fits = omega (arith, ap length read.coded.is, fits) });
        room = room;
        bytes = same ∙ sym read.coded.is ∙ ap packed (sym all);
        count = read.count_is ∙ ap length (sym all);
        step = step_is ∙ ap (λ (t : State). t.step) read.state ∙ ap (λ (l : List Point). (state_from begin l).step) (sym all);
        first = read.first_is ∙ ap first_of (sym all);
        last = last_is ∙ ap (λ (t : State). if t.begun then Some t.before else None) read.state ∙ last-known read.list ∙ ap last_of (sym all);
      }

  pub bytes_read : (written : List ℕ) → written ≡ bytes → packed (samples_of count written) ≡ bytes
  bytes_read written same = ap packed (samples_read written same) ∙ read.coded.is

  pub made_by : (written : List ℕ) → written ≡ bytes → AreMade made (samples_of count written)
  made_by written same = subst (AreMade made) (sym (samples_read written same)) read.made_to

-- samples have bytes, and no samples have none
pub some_coded : (ps : List Point) (bytes : List ℕ) → packed ps ≡ bytes → 0 < length bytes → ps ≢ []
some_coded ps bytes is some = λ none. omega (arith, ap length is, ap (λ (l : List Point). length (packed l)) none, some)

pub no_samples : (ps : List Point) (bytes : List ℕ) → ps ≢ [] → packed ps ≡ bytes → length bytes ≡ 0 → ⊥
no_samples [] bytes some is none = some refl
no_samples (p ∷ ps) bytes some is none = omega (arith, ap length is, three_or_more (p ∷ ps), none)
