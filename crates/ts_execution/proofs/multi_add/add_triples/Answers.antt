use Rattle.std.proofs.Common.{◌≡◌, ◌≤◌, ◌∙◌, ◌++◌, ℕ, List, [], length, sym, ap, arith, rules}
use Rattle.std.specs.Fmt.{decimal}
use Rattle.std.specs.Vec.Iter.{into_iter_items}
use Rattle.ts_spec.specs.Text.{line_text}
use Rattle.ts_command.specs.Reading.{triple_of, triples_of}
use Rattle.ts_resp.specs.Replies.{reply_of}
use Rattle.ts_questions.proofs.Short.{short_head}
use Rattle.ts_execution.proofs.Items.{each_none, adding_more, each_triple_answered, length-triples, no_items}
use Rattle.ts_execution.proofs.multi_add.add_triples.Goals as goal

pub begin_array-requires : goal.begin_array-requires
begin_array-requires g c =
    let short : length (line_text 42 (decimal c.len.result)) ≤ 64 = short_head c.len.result c.len.type_inv in
    omega arith

pub loop-triple-init : goal.loop-triple-init
loop-triple-init g c =
    let triples = triples_of c.args.triples.items in
    let gives : into_iter_items c.into_iter-triple-iterator.result ≡ c.args.triples.items = search rules in
    let count : c.len.result ≡ length triples = c.len.ensures ∙ c.args.triples.ok.0 ∙ sym (length-triples c.args.triples.items) in
    let head : c.begin_array.new.out.bytes ≡ line_text 42 (decimal c.len.result) =
    c.begin_array.ensures.bytes ∙ ap (λ (l : List ℕ). l ++ line_text 42 (decimal c.len.result)) c.requires.empty in
    let short : length (line_text 42 (decimal c.len.result)) ≤ 64 = short_head c.len.result c.len.type_inv in
    record {
      so_far = each_none c.args.reading triples (triples_of (into_iter_items c.into_iter-triple-iterator.result)) c.args.db.now c.begin_array.new.out.bytes (ap triples_of gives)
          (head ∙ ap (λ (n : ℕ). line_text 42 (decimal n)) count);
      items = omega (arith, ap length gives, length-triples (into_iter_items c.into_iter-triple-iterator.result), c.begin_array.ensures.room, c.requires.items, short);
      room = omega (arith, ap length head, c.begin_array.ensures.room, c.requires.room);
    }

pub loop-triple-preserved : goal.loop-triple-preserved
loop-triple-preserved g c =
    adding_more c.args.reading (triples_of c.args.triples.items) (triples_of (into_iter_items c.loop-triple.triple-iterator)) (triples_of (into_iter_items c.next.new.self)) (triple_of c.in-Some.triple)
    c.args.db.now c.loop-triple.db c.add_triple-item.new.db (reply_of c.add_triple-item.result) c.loop-triple.out.bytes c.put.new.out.bytes c.loop-triple.out.spare c.put.new.out.spare
    c.loop-triple.invariant (ap triples_of c.in-Some.ensures.steps.0) c.add_triple-item.ensures.reply c.add_triple-item.ensures.short c.put.ensures.bytes c.put.ensures.room

pub loop-triple-preserved-in-Some : goal.loop-triple-preserved-in-Some
loop-triple-preserved-in-Some g c =
    adding_more c.args.reading (triples_of c.args.triples.items) (triples_of (into_iter_items c.loop-triple.triple-iterator)) (triples_of (into_iter_items c.next.new.self)) (triple_of c.in-Some.triple)
    c.args.db.now c.loop-triple.db c.add_triple-item.new.db (reply_of c.add_triple-item.result) c.loop-triple.out.bytes c.put.new.out.bytes c.loop-triple.out.spare c.put.new.out.spare
    c.loop-triple.invariant (ap triples_of c.in-Some.ensures.steps.0) c.add_triple-item.ensures.reply c.add_triple-item.ensures.short c.put.ensures.bytes c.put.ensures.room

pub loop-triple-preserved-in-Some-2 : goal.loop-triple-preserved-in-Some-2
loop-triple-preserved-in-Some-2 g c =
    adding_more c.args.reading (triples_of c.args.triples.items) (triples_of (into_iter_items c.loop-triple.triple-iterator)) (triples_of (into_iter_items c.next.new.self)) (triple_of c.in-Some.triple)
    c.args.db.now c.loop-triple.db c.add_triple-item.new.db (reply_of c.add_triple-item.result) c.loop-triple.out.bytes c.put.new.out.bytes c.loop-triple.out.spare c.put.new.out.spare
    c.loop-triple.invariant (ap triples_of c.in-Some.ensures.steps.0) c.add_triple-item.ensures.reply c.add_triple-item.ensures.short c.put.ensures.bytes c.put.ensures.room

pub loop-triple-preserved-in-Some-3 : goal.loop-triple-preserved-in-Some-3
loop-triple-preserved-in-Some-3 g c =
    adding_more c.args.reading (triples_of c.args.triples.items) (triples_of (into_iter_items c.loop-triple.triple-iterator)) (triples_of (into_iter_items c.next.new.self)) (triple_of c.in-Some.triple)
    c.args.db.now c.loop-triple.db c.add_triple-item.new.db (reply_of c.add_triple-item.result) c.loop-triple.out.bytes c.put.new.out.bytes c.loop-triple.out.spare c.put.new.out.spare
    c.loop-triple.invariant (ap triples_of c.in-Some.ensures.steps.0) c.add_triple-item.ensures.reply c.add_triple-item.ensures.short c.put.ensures.bytes c.put.ensures.room

pub returns-clause-reply : goal.returns-clause-reply
returns-clause-reply g c =
    let none : into_iter_items c.loop-triple.triple-iterator ≡ [] = no_items (into_iter_items c.loop-triple.triple-iterator) (omega (arith, c.in-None.ensures.steps.0, c.loop-triple.triple-iterator.rest.ok.0)) in
    each_triple_answered c.args.reading (triples_of c.args.triples.items) (triples_of (into_iter_items c.loop-triple.triple-iterator)) c.args.db.now c.loop-triple.db c.loop-triple.out.bytes
    c.loop-triple.invariant.so_far (ap triples_of none)
