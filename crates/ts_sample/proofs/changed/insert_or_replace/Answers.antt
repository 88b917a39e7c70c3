use Rattle.std.proofs.Common.{◌≡◌, set, subst, ap, ◌∙◌}
use Rattle.std.specs.Prelude.{List, Some, slice_get, IsSomeAnd}
use Rattle.ts_spec.specs.Sample.{Point, at}
use Rattle.ts_sample.proofs.Replacing.{put-found}
use Rattle.ts_sample.proofs.changed.insert_or_replace.Goals as goal

pub returns-in-Ok : goal.returns-in-Ok
returns-in-Ok c =
    let ps = c.args.samples.now.items in
    let found : IsSomeAnd (at c.sample.inside.time ps) (λ p. slice_get ps c.in-Ok.place ≡ Some p) =
    subst (λ (l : List Point). IsSomeAnd (at c.sample.inside.time l) (λ p. slice_get l c.in-Ok.place ≡ Some p)) c.deref.ensures.value c.in-Ok.ensures.found in
    ap (set ps c.in-Ok.place) c.sample.view_is
    ∙ put-found c.sample.inside.time c.in-Ok.place ps c.args.sample.now c.requires found (ap (λ (p : Point). p.time) c.sample.view_is)
