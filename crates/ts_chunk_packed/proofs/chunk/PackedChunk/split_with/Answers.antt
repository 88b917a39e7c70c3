use Rattle.std.proofs.Common.{◌≡◌, ◌<◌, ◌≤◌, ◌++◌, ◌∙◌, ap, arith}
use Rattle.ts_spec.specs.Sample.{Point, put}
use Rattle.ts_chunk_packed.proofs.Halving.{into-first, into-second}
use Rattle.ts_chunk_packed.proofs.chunk.PackedChunk.split_with.Goals as goal

pub returns-then-sample-begins-clause-list : goal.returns-then-sample-begins-clause-list
returns-then-sample-begins-clause-list c =
    let sample = c.args.sample.now in
    let begins = c.in-Some-first.begins in
    let whole : c.in-Some.first.list ++ c.in-Some.second.list ≡ c.args.self.now.list = rw c.in-Some.is at c.in_ok-first.ensures.whole in
    let with_it : c.in-Some-2.first.list ≡ put sample c.in-Some.first.list = rw c.in-Some-2.is at c.in_ok-first-2.ensures.list in
    let less : sample.time < begins.time = omega (arith, ap (λ (p : Point). p.time) c.sample.view_is, ap (λ (p : Point). p.time) c.begins.view_is, c.if-sample-begins.true) in
    ap (λ l. l ++ c.in-Some.second.list) with_it ∙ into-first sample c.in-Some.first.list c.in-Some.second.list c.args.self.now.list whole c.known.ensures.ascending begins c.in-Some-first.ensures less

pub returns-clause-list : goal.returns-clause-list
returns-clause-list c =
    let sample = c.args.sample.now in
    let begins = c.in-Some-first.begins in
    let whole : c.in-Some.first.list ++ c.in-Some.second.list ≡ c.args.self.now.list = rw c.in-Some.is at c.in_ok-first.ensures.whole in
    let with_it : c.in-Some-3.second.list ≡ put sample c.in-Some.second.list = rw c.in-Some-3.is at c.in_ok-second.ensures.list in
    let more : begins.time ≤ sample.time = omega (arith, ap (λ (p : Point). p.time) c.sample.view_is, ap (λ (p : Point). p.time) c.begins.view_is, c.if-sample-begins.false) in
    ap (λ l. c.in-Some.first.list ++ l) with_it ∙ into-second sample c.in-Some.first.list c.in-Some.second.list c.args.self.now.list whole c.known.ensures.ascending begins c.in-Some-first.ensures more
