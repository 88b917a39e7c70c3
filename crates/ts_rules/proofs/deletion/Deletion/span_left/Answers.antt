use Rattle.std.proofs.Common.{List, length, ap, ◌∙◌, arith}
use Rattle.ts_spec.specs.Sample.{Point, between}
use Rattle.ts_sample.proofs.Visiting.{list-gathered}
use Rattle.ts_series.specs.History.{list_of}
use Rattle.ts_rules.specs.Rules.{one_of}
use Rattle.ts_rules.proofs.Spanned.{parts-one, parts-two, parts-three}
use Rattle.ts_rules.proofs.deletion.Deletion.span_left.Goals as goal
use Rattle.ts_rules.proofs.deletion.Deletion.span_left.Goals.{then-first-last, else-first-last}

pub push_unaffected-requires : goal.push_unaffected-requires
push_unaffected-requires g c =
    let list : List Point = between c.args.first c.args.last (list_of c.args.dest.now) in
    let shown = c.deref.ensures.value ∙ c.into_samples-shown.ensures ∙ list-gathered c.args.shown c.scan.new.visit list c.requires.shown.empty c.scan.ensures.visited in
    omega (arith, c.requires.rows.room, c.push_row.ensures.room, ap (λ (ps : List Point). length ps) shown)

pub push_row-requires-then-first-last : goal.push_row-requires-then-first-last
push_row-requires-then-first-last g c =
    let list : List Point = between c.args.first c.args.last (list_of c.args.dest.now) in
    let shown = c.deref.ensures.value ∙ c.into_samples-shown.ensures ∙ list-gathered c.args.shown c.scan.new.visit list c.requires.shown.empty c.scan.ensures.visited in
    omega (arith, c.requires.rows.room, c.push_row.ensures.room, c.push_unaffected.ensures.room, ap (λ (ps : List Point). length ps) shown)

pub returns-clause-span : goal.returns-clause-span
returns-clause-span g c =
    let list : List Point = between c.args.first c.args.last (list_of c.args.dest.now) in
    let shown = c.deref.ensures.value ∙ c.into_samples-shown.ensures ∙ list-gathered c.args.shown c.scan.new.visit list c.requires.shown.empty c.scan.ensures.visited in
    let two = parts-two c.args.self.now.rule.now c.args.self.now.source.now c.args.self.now.from c.args.self.now.to c.args.dest.now.born c.args.first c.args.last (list_of c.args.dest.now)
    c.args.rows.list c.push_row.new.rows.list c.push_unaffected.new.rows.list c.deref.result.now (one_of c.row_left.result) c.born.result
    c.requires.rows.empty c.born.ensures c.row_left.ensures c.push_row.ensures.list shown c.push_unaffected.ensures.list in
    c.into_samples.ensures
    ∙ elim c.if-first-last.branch [
      | then-first-last w ↦ parts-three c.args.self.now.rule.now c.args.self.now.source.now c.args.self.now.from c.args.self.now.to c.args.dest.now.born c.args.first c.args.last (list_of c.args.dest.now)
          c.push_unaffected.new.rows.list c.if-first-last.rows.list (one_of w.row_left-then-first-last.result) w.born-then-first-last.result two w.if-first-last.true w.born-then-first-last.ensures
          w.row_left-then-first-last.ensures (ap (λ v. v.list) w.rows-is ∙ w.push_row-then-first-last.ensures.list)
      | else-first-last w ↦ parts-one c.args.self.now.rule.now c.args.self.now.source.now c.args.self.now.from c.args.self.now.to c.args.dest.now.born c.args.first c.args.last (list_of c.args.dest.now)
          c.push_unaffected.new.rows.list c.if-first-last.rows.list two w.if-first-last.false (ap (λ v. v.list) w.rows-is)
    ]
