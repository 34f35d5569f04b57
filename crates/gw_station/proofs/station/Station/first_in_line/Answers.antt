use Rattle.std.proofs.Common.{◌≡◌, ℕ, ◌<◌, ◌≤◌, ◌⊎◌, false, List, [], ◌∷◌}
use Rattle.std.proofs.Common.{Some, None, inl, inr, refl, sym, ap, subst, ◌∙◌, rules}
use Rattle.std.specs.Prelude.{is_some, option_map, slice_get}
use Rattle.std.proofs.lemmas.Option.{none-some}
use Rattle.gw_station.specs.declared.sending.Sending.TheVariants as sendings
use Rattle.gw_station.proofs.Line.{first_answer, first_older, first_part, first_news}
use Rattle.gw_station.specs.Ring.{seen, Seat}
use Rattle.gw_station.proofs.station.Station.first_in_line.Goals as goal
use Rattle.gw_station.proofs.station.Station.first_in_line.Goals.{else-is_some-via-then-is_some+else-older-gt0}
use Rattle.gw_station.proofs.station.Station.first_in_line.Goals.{else-is_some-via-else-is_some}

without_first : {A : Type 0} (xs : List A) → slice_get xs 0 ≡ None → xs ≡ []
without_first [] none = refl
without_first (x ∷ xs) none = absurd (none-some x (sym none))

pub returns-in-Some : goal.returns-in-Some
returns-in-Some c =
    let answer = c.in-Some.answer.now in
    first_answer (seen c.args.news.now c.args.self.now) answer
    (subst (λ (k : Seat). slice_get k.answers 0 ≡ Some answer) c.self.view_is (sym c.in-Some.ensures))

pub returns-then-older-gt0 : goal.returns-then-older-gt0
returns-then-older-gt0 c =
    let answers = c.self.inside.answers in
    let none = sym (ap (λ (k : Seat). k.answers) c.self.view_is)
    ∙ without_first answers.items (sym c.in_default.ensures) in
    let news : c.map-oldest.result ≡ option_map sendings.News (slice_get (seen c.args.news.now c.args.self.now).queue 0) = search rules in
    let queued = sym (c.map-oldest.ensures.variant ∙ ap is_some c.oldest_news.ensures) in
    let waits = queued ∙ (sym c.is_some.ensures ∙ c.if-is_some.true) in
    news
    ∙ first_older (seen c.args.news.now c.args.self.now) none (subst (λ (n : ℕ). 0 < n) c.older.ensures c.if-older-gt0.true) waits

pub returns-in-Some-first : goal.returns-in-Some-first
returns-in-Some-first c =
    let s = (seen c.args.news.now c.args.self.now) in
    let answers = c.self.inside.answers in
    let part = c.in-Some-first.part in
    let none = sym (ap (λ (k : Seat). k.answers) c.self.view_is)
    ∙ without_first answers.items (sym c.in_default.ensures) in
    let queued = sym (c.map-oldest.ensures.variant ∙ ap is_some c.oldest_news.ensures) in
    let no_news : (s.older ≤ 0) ⊎ (is_some (slice_get s.queue 0) ≡ false) = elim c.else-is_some.branch [
      | else-is_some-via-then-is_some+else-older-gt0 w ↦
          inl (subst (λ (n : ℕ). n ≤ 0) w.older.ensures w.if-older-gt0.false)
      | else-is_some-via-else-is_some w ↦ inr (queued ∙ (sym c.is_some.ensures ∙ w.if-is_some.false))
    ] in
    let first : slice_get s.rest 0 ≡ Some part = search rules in
    first_part s part none no_news first

pub returns : goal.returns
returns c =
    let answers = c.self.inside.answers in
    let none = sym (ap (λ (k : Seat). k.answers) c.self.view_is)
    ∙ without_first answers.items (sym c.in_default.ensures) in
    let first : slice_get (seen c.args.news.now c.args.self.now).rest 0 ≡ None = search rules in
    let news : c.map-oldest.result ≡ option_map sendings.News (slice_get (seen c.args.news.now c.args.self.now).queue 0) = search rules in
    news ∙ first_news (seen c.args.news.now c.args.self.now) none (without_first (seen c.args.news.now c.args.self.now).rest first)
