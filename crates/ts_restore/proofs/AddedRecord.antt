-- A record stays sound with one more rule.
use Rattle.std.proofs.Common.{◌<◌, List, [], ◌∷◌, ◌++◌}
use Rattle.ts_spec.specs.State.{Rule, Record}
use Rattle.ts_spec.specs.Valid.{EachRule, IsCountable, IsSoundRule, IsOwn, IsSound}
use Rattle.ts_spec.proofs.Sound.{each-rule-to}
use Rattle.ts_spec.proofs.RuleLists.{each-rule-append, in_order-append}
use Rattle.ts_restore.specs.Restored.{add_rule}

rule-as : (d : Record) (rules : List Rule) → (r : Rule) → IsSoundRule d r → IsSoundRule (record d { rules = rules }) r
rule-as d rules r s = record {
  made_from = s.made_from;
  made_to = s.made_to;
  ascending = s.ascending;
  seen = λ t p e. (let c : IsCountable d r p = s.seen t p e in record { since = c.since; made = c.made; time = c.time });
  eligible = s.eligible;
  top = s.top;
}

pub sound-added : (new : Rule) (d : Record) → IsSound d → EachRule (λ r. r.made < new.made) d.rules → IsSoundRule d new → IsSound (add_rule new d)
sound-added new d s after sound = record {
  ascending = s.ascending;
  own = λ t p e. (let o : IsOwn d p = s.own t p e in record { time = o.time; made = o.made });
  in_order = in_order-append d.rules new s.in_order after;
  rules = each-rule-append (IsSoundRule (add_rule new d)) d.rules new
      (each-rule-to (IsSoundRule d) (IsSoundRule (add_rule new d)) d.rules (λ r x. rule-as d (d.rules ++ new ∷ []) r x) s.rules)
      (rule-as d (d.rules ++ new ∷ []) new sound);
}
