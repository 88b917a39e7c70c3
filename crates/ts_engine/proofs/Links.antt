-- Serving connections adds up.
use Rattle.std.specs.Prelude.{Option, None, Some}
use Rattle.std.specs.Option.{option_map}
use Rattle.std.proofs.Common.{◌≡◌, ℕ, ◌+◌, ◌≤◌, List, [], ◌∷◌, ◌++◌, length, map, take, refl, sym, ◌∙◌, ap, subst, arith, append_assoc, append-nil, length-append}
use Rattle.std.proofs.lemmas.List.{map-append}
use Rattle.ts_io.specs.Sinks.{Grows, GrowsByPrefix}
use Rattle.ts_io.specs.Links.{PopsFront, PushesBack}
use Rattle.ts_io.specs.declared.listener.Ends.{Ends}
use Rattle.ts_io.proofs.Growth.{grows_none, grows_twice}
use Rattle.ts_spec.specs.declared.wire.WireLimits.{WireLimits}
use Rattle.ts_engine.specs.declared.serving.Served.{Served}
use Rattle.ts_engine.specs.declared.serving.Served.TheVariants.{Done, AcceptFault, WriteFault}
use Rattle.ts_words.specs.declared.mode.Mode.{Mode}
use Rattle.ts_words.specs.declared.mode.Mode.TheVariants.{Serve}
use Rattle.ts_words.specs.declared.status.Status.{Status}
use Rattle.ts_execution.specs.Handling.{World}
use Rattle.ts_engine.specs.Asked.{AllServed}
use Rattle.ts_engine.specs.Headline.{RunView}
use Rattle.ts_engine.specs.Serving.{line_at, Link, lines_from, StreamViews, LinksMoved, IsServed, AreServed, Lines, Serves}

-- the lines of two lists of connections
lines_append : {I O : Type 0} (number : ℕ) (xs ys : List (Link I O)) → lines_from number (xs ++ ys) ≡ lines_from number xs ++ lines_from (number + length xs) ys
lines_append number [] ys = ap (λ (n : ℕ). lines_from n ys) (omega arith)
lines_append number (x ∷ xs) ys =
    ap (λ (l : List ℕ). line_at number x.outcome ++ l)
    (lines_append (number + 1) xs ys ∙ ap (λ (n : ℕ). lines_from (number + 1) xs ++ lines_from n ys) (omega arith))
    ∙ sym (append_assoc (line_at number x.outcome) (lines_from (number + 1) xs) (lines_from (number + length (x ∷ xs)) ys))

-- no connection was accepted
handed_none : {I O : Type 0} (coming closed : Option (List (Ends I O))) → LinksMoved [] coming coming closed closed
handed_none None None = record { came = refl; back = refl }
handed_none None (Some back) = record { came = refl; back = ap Some (sym (append-nil back)) }
handed_none (Some links) None = record { came = refl; back = refl }
handed_none (Some links) (Some back) = record { came = refl; back = ap Some (sym (append-nil back)) }

-- one connection was accepted and closed
handed_one : {I O : Type 0} (link : Link I O) (coming coming' closed closed' : Option (List (Ends I O))) → PopsFront coming coming' link.came → PushesBack closed closed' link.back
    → LinksMoved (link ∷ []) coming coming' closed closed'
handed_one link coming coming' closed closed' takes adds = record { came = takes; back = adds }

-- the connections accepted in two lists
came_both : {T : Type 0} (xs ys : List T) (o : Option (List T)) → option_map (λ rest. xs ++ rest) (option_map (λ rest. ys ++ rest) o) ≡ option_map (λ rest. (xs ++ ys) ++ rest) o
came_both xs ys None = refl
came_both xs ys (Some rest) = ap Some (sym (append_assoc xs ys rest))

back_both : {T : Type 0} (xs ys : List T) (o : Option (List T)) → option_map (λ before. before ++ ys) (option_map (λ before. before ++ xs) o) ≡ option_map (λ before. before ++ (xs ++ ys)) o
back_both xs ys None = refl
back_both xs ys (Some before) = ap Some (append_assoc before xs ys)

handed_both : {I O : Type 0} (xs ys : List (Link I O)) (c c1 c2 k k1 k2 : Option (List (Ends I O))) → LinksMoved xs c c1 k k1 → LinksMoved ys c1 c2 k1 k2 → LinksMoved (xs ++ ys) c c2 k k2
handed_both {I} {O} xs ys c c1 c2 k k1 k2 one two = record {
  came = one.came ∙ ap (option_map (λ (rest : List (Ends I O)). map (λ (l : Link I O). l.came) xs ++ rest)) two.came
      ∙ came_both (map (λ (l : Link I O). l.came) xs) (map (λ (l : Link I O). l.came) ys) c2
      ∙ ap (λ (l : List (Ends I O)). option_map (λ rest. l ++ rest) c2) (sym (map-append (λ (l : Link I O). l.came) xs ys));
  back = two.back ∙ ap (option_map (λ (before : List (Ends I O)). before ++ map (λ (l : Link I O). l.back) ys)) one.back
      ∙ back_both (map (λ (l : Link I O). l.back) xs) (map (λ (l : Link I O). l.back) ys) k
      ∙ ap (λ (l : List (Ends I O)). option_map (λ before. before ++ l) k) (sym (map-append (λ (l : Link I O). l.back) xs ys));
}

-- without a fault all connections were served
pub done_by : (served : Served) → (served ≡ AcceptFault → ⊥) → (served ≡ WriteFault → ⊥) → served ≡ Done
done_by Done no_accept no_write = refl
done_by AcceptFault no_accept no_write = absurd (no_accept refl)
done_by WriteFault no_accept no_write = absurd (no_write refl)

module _ {I O : Type 0} (views : StreamViews I O) (limits : WireLimits) (budget : ℕ) where
  -- by how serving ended
  pub serves_as : (served served' : Served) (number most : ℕ) (from to : World) (c c1 k k1 : Option (List (Ends I O))) (had has : List ℕ → Type 0) → served ≡ served'
      → Serves views limits budget served number most from to c c1 k k1 had has → Serves views limits budget served' number most from to c c1 k k1 had has
  serves_as served served' number most from to c c1 k k1 had has same serves = subst (λ (s : Served). Serves views limits budget s number most from to c c1 k k1 had has) same serves

  served_both : (xs ys : List (Link I O)) (from mid to : World) → AreServed views limits budget xs from mid → AreServed views limits budget ys mid to → AreServed views limits budget (xs ++ ys) from to
  served_both [] ys from mid to one two = subst (λ (w : World). AreServed views limits budget ys w to) one two
  served_both (x ∷ xs) ys from mid to one two = (one.0, one.1, served_both xs ys one.0 mid to one.2 two)

  lines_both : (served : Served) (number n most : ℕ) (xs ys : List (Link I O)) (had mid has : List ℕ → Type 0) → length xs ≡ n → Grows had mid (lines_from number xs)
      → Lines views limits budget served (number + n) most ys mid has → Lines views limits budget served number (n + most) (xs ++ ys) had has
  lines_both Done number n most xs ys had mid has count grown lines = (
    omega (arith, length-append xs ys, count, lines.0),
    subst (λ (l : List ℕ). Grows had has l) (sym (lines_append number xs ys ∙ ap (λ (i : ℕ). lines_from number xs ++ lines_from (number + i) ys) count))
        (grows_twice had mid has (lines_from number xs) (lines_from (number + n) ys) grown lines.1),
  )
  lines_both AcceptFault number n most xs ys had mid has count grown lines = (
    omega (arith, length-append xs ys, count, lines.0),
    subst (λ (l : List ℕ). Grows had has l) (sym (lines_append number xs ys ∙ ap (λ (i : ℕ). lines_from number xs ++ lines_from (number + i) ys) count))
        (grows_twice had mid has (lines_from number xs) (lines_from (number + n) ys) grown lines.1),
  )
  lines_both WriteFault number n most xs ys had mid has count grown lines =
      let cut : List ℕ = take lines.kept (line_at (number + n + length lines.first) lines.last.outcome) in
      record {
        first = xs ++ lines.first;
        last = lines.last;
        split = ap (λ (l : List (Link I O)). xs ++ l) lines.split ∙ sym (append_assoc xs lines.first (lines.last ∷ []));
        within = omega (arith, length-append xs ys, count, lines.within);
        kept = lines.kept;
        grown = subst (λ (l : List ℕ). Grows had has l)
            (sym (append_assoc (lines_from number xs) (lines_from (number + n) lines.first) cut)
            ∙ ap (λ (i : ℕ). (lines_from number xs ++ lines_from (number + i) lines.first) ++ cut) (sym count)
            ∙ ap (λ (l : List ℕ). l ++ cut) (sym (lines_append number xs lines.first))
            ∙ ap (λ (i : ℕ). lines_from number (xs ++ lines.first) ++ take lines.kept (line_at i lines.last.outcome)) (omega (arith, length-append xs lines.first, count)))
            (grows_twice had mid has (lines_from number xs) (lines_from (number + n) lines.first ++ cut) grown lines.grown);
      }

  -- no connection was served yet
  pub serves_none : (number : ℕ) (world : World) (coming closed : Option (List (Ends I O))) (has : List ℕ → Type 0) → Serves views limits budget Done number 0 world world coming coming closed closed has has
  serves_none number world coming closed has = record { links = []; run = refl; handed = handed_none coming closed; lines = (refl, grows_none has) }

  -- no connection came
  pub serves_fault : (number most : ℕ) (world : World) (coming coming' closed closed' : Option (List (Ends I O))) (has : List ℕ → Type 0) → 1 ≤ most → coming' ≡ coming → closed' ≡ closed
      → Serves views limits budget AcceptFault number most world world coming coming' closed closed' has has
  serves_fault number most world coming coming' closed closed' has some came back = record {
    links = [];
    run = refl;
    handed = subst (λ (c : Option (List (Ends I O))). LinksMoved [] coming c closed closed') (sym came)
        (subst (λ (k : Option (List (Ends I O))). LinksMoved [] coming coming closed k) (sym back) (handed_none coming closed));
    lines = (omega (arith, some), grows_none has);
  }

  -- one connection was served
  module _ (number : ℕ) (link : Link I O) (from to : World) (coming coming' closed closed' : Option (List (Ends I O))) (had has : List ℕ → Type 0)
      (takes : PopsFront coming coming' link.came) (adds : PushesBack closed closed' link.back) (served : IsServed views limits budget link from to) where
    pub serves_one : Grows had has (line_at number link.outcome) → Serves views limits budget Done number 1 from to coming coming' closed closed' had has
    serves_one grown = record {
      links = link ∷ [];
      run = (to, served, refl);
      handed = handed_one link coming coming' closed closed' takes adds;
      lines = (refl, subst (λ (l : List ℕ). Grows had has l) (sym (append-nil (line_at number link.outcome))) grown);
    }

    -- and its line could not be written
    pub serves_cut : GrowsByPrefix had has (line_at number link.outcome) → Serves views limits budget WriteFault number 1 from to coming coming' closed closed' had has
    serves_cut front = record {
      links = link ∷ [];
      run = (to, served, refl);
      handed = handed_one link coming coming' closed closed' takes adds;
      lines = record {
        first = [];
        last = link;
        split = refl;
        within = omega arith;
        kept = front.len;
        grown = subst (λ (i : ℕ). Grows had has (take front.len (line_at i link.outcome))) (omega arith) front.grows;
      };
    }

  -- some connections were served, then others
  pub serves_both : (served : Served) (number n most next : ℕ) (from mid to : World) (c c1 c2 k k1 k2 : Option (List (Ends I O))) (had has' has : List ℕ → Type 0) → next ≡ number + n
      → Serves views limits budget Done number n from mid c c1 k k1 had has' → Serves views limits budget served next most mid to c1 c2 k1 k2 has' has
      → Serves views limits budget served number (n + most) from to c c2 k k2 had has
  serves_both served number n most next from mid to c c1 c2 k k1 k2 had has' has then one two = record {
    links = one.links ++ two.links;
    run = served_both one.links two.links from mid to one.run two.run;
    handed = handed_both one.links two.links c c1 c2 k k1 k2 one.handed two.handed;
    lines = lines_both served number n most one.links two.links had has' has one.lines.0 one.lines.1
        (subst (λ (i : ℕ). Lines views limits budget served i most two.links has' has) then two.lines);
  }

  -- by their number
  pub serves_so_many : (number n most : ℕ) (from to : World) (c c1 k k1 : Option (List (Ends I O))) (had has : List ℕ → Type 0) → n ≡ most
      → Serves views limits budget Done number n from to c c1 k k1 had has → Serves views limits budget Done number most from to c c1 k k1 had has
  serves_so_many number n most from to c c1 k k1 had has same serves = subst (λ (i : ℕ). Serves views limits budget Done number i from to c c1 k k1 had has) same serves

  lines_within : (served : Served) (number n most : ℕ) (links : List (Link I O)) (had has : List ℕ → Type 0) → (served ≡ Done → ⊥) → n ≤ most
      → Lines views limits budget served number n links had has → Lines views limits budget served number most links had has
  lines_within Done number n most links had has ends within lines = absurd (ends refl)
  lines_within AcceptFault number n most links had has ends within lines = (omega (arith, lines.0, within), lines.1)
  lines_within WriteFault number n most links had has ends within lines = record {
    first = lines.first;
    last = lines.last;
    split = lines.split;
    within = omega (arith, lines.within, within);
    kept = lines.kept;
    grown = lines.grown;
  }

  -- a fault that ends the serving of some connections ends that of more
  pub serves_within : (served : Served) (number n most : ℕ) (from to : World) (c c1 k k1 : Option (List (Ends I O))) (had has : List ℕ → Type 0) → (served ≡ Done → ⊥) → n ≤ most
      → Serves views limits budget served number n from to c c1 k k1 had has → Serves views limits budget served number most from to c c1 k k1 had has
  serves_within served number n most from to c c1 k k1 had has ends within serves = record {
    links = serves.links;
    run = serves.run;
    handed = serves.handed;
    lines = lines_within served number n most serves.links had has ends within serves.lines;
  }

  -- the listener showed the same before
  pub serves_from : (served : Served) (number most : ℕ) (from to : World) (c c' c1 k k' k1 : Option (List (Ends I O))) (had has : List ℕ → Type 0) → c' ≡ c → k' ≡ k
      → Serves views limits budget served number most from to c' c1 k' k1 had has → Serves views limits budget served number most from to c c1 k k1 had has
  serves_from served number most from to c c' c1 k k' k1 had has came back serves =
      subst (λ (x : Option (List (Ends I O))). Serves views limits budget served number most from to x c1 k k1 had has) came
      (subst (λ (x : Option (List (Ends I O))). Serves views limits budget served number most from to c' c1 x k1 had has) back serves)

-- the arguments give one number of connections
pub same_links : (mode : Option Mode) (a b : ℕ) → Some (Serve a) ≡ mode → mode ≡ Some (Serve b) → a ≡ b
same_links mode a b one two = serves_same (one ∙ two)
  where
    serves_same : Some (Serve a) ≡ Some (Serve b) → a ≡ b
    serves_same same = (cc)

pub all_served_as : {I O : Type 0} (views : StreamViews I O) (seen : RunView) (budget most most' : ℕ) (coming coming' closed closed' : Option (List (Ends I O))) (given : Status) → most ≡ most'
    → AllServed views seen budget most coming coming' closed closed' given → AllServed views seen budget most' coming coming' closed closed' given
all_served_as views seen budget most most' coming coming' closed closed' given same all = subst (λ (n : ℕ). AllServed views seen budget n coming coming' closed closed' given) same all
