use Rattle.std.proofs.Common.{◌∙◌, List, length, ap}
use Rattle.std.proofs.lemmas.List.FromFn.{length-map-range_with_len}
use Rattle.run_shared.specs.Turn.{Pass, unused}
use Rattle.run_server.proofs.Roles.{are_first}
use Rattle.run_server.proofs.serving.serve_with.Goals as goal

pub serve_in-requires-clause-passes : goal.serve_in-requires-clause-passes
serve_in-requires-clause-passes g c ks live = are_first _ c.args.opening.actors c.in_ok-shared.ensures

pub serve_in-requires-clause-all : goal.serve_in-requires-clause-all
serve_in-requires-clause-all g c ks live =
    c.in_ok-shared.passes.ok.0
    ∙ (ap (λ (l : List Pass). length l) c.in_ok-shared.ensures
    ∙ (length-map-range_with_len unused 0 c.args.opening.actors ∙ c.requires.actors))
