use Rattle.std.proofs.Common.{◌≡◌, ◌∙◌, sym, ap}
use Rattle.gw_time.specs.Rule.{clocks_of}
use Rattle.gw_time.specs.Spelling.{tag_of}
use Rattle.gw_time.proofs.Spelled.{window_of_tag, tag_means, tag_is_plain}
use Rattle.gw_time.proofs.tag.to_tag.Goals as goal

pub returns-in-At-clause-window : goal.returns-in-At-clause-window
returns-in-At-clause-window c =
    let clocks = clocks_of c.args.zone.now in
    let exact : c.tag_at.result ≡ tag_of clocks c.args.stamp = c.tag_at.ensures ∙ ap (tag_of clocks) (sym c.in-At.is) in
    rw exact (window_of_tag clocks c.args.stamp)

pub returns-in-At-clause-meant : goal.returns-in-At-clause-meant
returns-in-At-clause-meant c =
    let clocks = clocks_of c.args.zone.now in
    let exact : c.tag_at.result ≡ tag_of clocks c.args.stamp = c.tag_at.ensures ∙ ap (tag_of clocks) (sym c.in-At.is) in
    rw exact (tag_means clocks c.args.stamp)

pub returns-in-At-clause-plain : goal.returns-in-At-clause-plain
returns-in-At-clause-plain c =
    let clocks = clocks_of c.args.zone.now in
    let exact : c.tag_at.result ≡ tag_of clocks c.args.stamp = c.tag_at.ensures ∙ ap (tag_of clocks) (sym c.in-At.is) in
    rw exact (tag_is_plain clocks c.args.stamp)

pub returns-in-Doubtful-clause-window : goal.returns-in-Doubtful-clause-window
returns-in-Doubtful-clause-window c =
    let clocks = clocks_of c.args.zone.now in
    let exact : c.tag_at-in-Doubtful.result ≡ tag_of clocks c.args.stamp =
    c.tag_at-in-Doubtful.ensures ∙ ap (tag_of clocks) (sym c.in-Doubtful.is) in
    rw exact (window_of_tag clocks c.args.stamp)

pub returns-in-Doubtful-clause-meant : goal.returns-in-Doubtful-clause-meant
returns-in-Doubtful-clause-meant c =
    let clocks = clocks_of c.args.zone.now in
    let exact : c.tag_at-in-Doubtful.result ≡ tag_of clocks c.args.stamp =
    c.tag_at-in-Doubtful.ensures ∙ ap (tag_of clocks) (sym c.in-Doubtful.is) in
    rw exact (tag_means clocks c.args.stamp)

pub returns-in-Doubtful-clause-plain : goal.returns-in-Doubtful-clause-plain
returns-in-Doubtful-clause-plain c =
    let clocks = clocks_of c.args.zone.now in
    let exact : c.tag_at-in-Doubtful.result ≡ tag_of clocks c.args.stamp =
    c.tag_at-in-Doubtful.ensures ∙ ap (tag_of clocks) (sym c.in-Doubtful.is) in
    rw exact (tag_is_plain clocks c.args.stamp)
