-- A tick: sessions end, and then the orders of which no answer came in time.
use Rattle.std.proofs.Common.{◌≡◌, ℕ, suc, ◌+◌, ◌≤◌, Bool, List, [], ◌∷◌, map}
use Rattle.std.proofs.Common.{Option, Some, None, option_map, refl, ap, ◌∙◌, arith}
use Rattle.std.specs.Prelude.{slice_get}
use Rattle.gw_model.specs.declared.control.Ended.{Ended}
use Rattle.dnp_master.specs.Answers.{operation_awaited}
use Rattle.dnp_master.specs.Master.{Master, ended_by_tick}
use Rattle.gw_control.specs.declared.accepted.Accepted.{Accepted}
use Rattle.gw_control.specs.Controls.{Controls}
use Rattle.gw_control.specs.Orders.{Outgoing}
use Rattle.gw_station.specs.Client.{is_timed_out}
use Rattle.dnp_master.specs.declared.fate.Fate.{Fate}
use Rattle.dnp_master.specs.declared.fate.Fate.TheVariants as fates
use Rattle.gw_steps.specs.Controls.{controls_after_all_ended, controls_with_ended}
use Rattle.gw_steps.specs.Effects.{effects_of_tick, end_at, late, let_go}
use Rattle.gw_steps.specs.State.{State}
use Rattle.gw_steps.specs.Steps.{controls_closed, ended_late}
use Rattle.law_history.proofs.Ended.{ended_there}
use Rattle.law_fates.specs.Fates.{Named, named_by}
use Rattle.law_fates.proofs.Counts.{all_so, times, way_at}
use Rattle.law_fates.proofs.Ended.{end_told, ended_so, ends_append, with_ended}
use Rattle.law_fates.proofs.Leaving.{let_go_told, sessions_end, ways_stay}
use Rattle.law_fates.proofs.Says.{tick_says}

-- ---- what ends

-- of the orders that end of all outstations from one on, where these are under way
abbrev late_so : (Named → Bool) → ℕ → List (Option Ended) → (ℕ → Option Accepted) → ℕ
late_so p i [] ways = 0
late_so p i (e ∷ es) ways = ended_so p i e (ways i) + late_so p (suc i) es ways

all_ended : (p : Named → Bool) (i : ℕ) (es : List (Option Ended)) (v : Controls) (ways : ℕ → Option Accepted)
    → ((n : ℕ) → i ≤ n → way_at (slice_get v.outgoing n) ≡ ways n)
    → all_so p 0 v.outgoing ≡ all_so p 0 (controls_after_all_ended i es v).outgoing + late_so p i es ways
all_ended p i [] v ways are = omega arith
all_ended p i (e ∷ es) v ways are =
    let rest : all_so p 0 (controls_with_ended i e v).outgoing
    ≡ all_so p 0 (controls_after_all_ended (suc i) es (controls_with_ended i e v)).outgoing + late_so p (suc i) es ways =
    all_ended p (suc i) es (controls_with_ended i e v) ways
    (λ n le. ap way_at (ended_there i e v n (λ is. omega (arith, le, is))) ∙ are n (omega (arith, le))) in
    omega (arith, with_ended p i e v, ap (ended_so p i e) (are i (omega arith)), rest)

-- ---- what is told

none_ends : (p : Named → Bool) (o : ℕ) (e : Option Ended) → ended_so p o e None ≡ 0
none_ends p o None = refl
none_ends p o (Some e) = refl

none_late : (p : Named → Bool) (i : ℕ) (es : List (Option Ended)) (ways : ℕ → Option Accepted)
    → ((n : ℕ) → ways (n + i) ≡ None) → late_so p i es ways ≡ 0
none_late p i [] ways none = refl
none_late p i (e ∷ es) ways none =
    let at : i ≡ 0 + i = omega arith in
    let here : ways i ≡ None = ap ways at ∙ none 0 in
    omega (
      arith,
      ap (ended_so p i e) here,
      none_ends p i e,
      none_late p (suc i) es ways (λ n. let same : n + suc i ≡ suc n + i = omega arith in ap ways same ∙ none (suc n)),
    )

late_told : (p : Named → Bool) (moment i : ℕ) (ms : List Master) (qs : List Outgoing) (ways : ℕ → Option Accepted)
    → ((n : ℕ) → ways (n + i) ≡ way_at (slice_get qs n))
    → times p (map named_by (late i ms (map (ended_by_tick moment) ms) qs))
    ≡ late_so p i (map (ended_by_tick moment) ms) ways
late_told p moment i [] qs ways are = refl
late_told p moment i (m ∷ ms) [] ways are =
    let none : late_so p i (map (ended_by_tick moment) (m ∷ ms)) ways ≡ 0 =
    none_late p i (map (ended_by_tick moment) (m ∷ ms)) ways are in
    omega (arith, none)
late_told p moment i (m ∷ ms) (q ∷ qs) ways are =
    let e : Option Ended = ended_by_tick moment m in
    let fate : Option Fate = option_map fates.Unanswered (operation_awaited m.exchange) in
    let at : i ≡ 0 + i = omega arith in
    let here : ways i ≡ way_at (Some q) = ap ways at ∙ are 0 in
    omega (
      arith,
      ends_append p (end_at i fate e (Some q)) (late (suc i) ms (map (ended_by_tick moment) ms) qs),
      end_told p i fate e (Some q) (tick_says moment m),
      ap (ended_so p i e) here,
      late_told p moment (suc i) ms qs ways
          (λ n. let same : n + suc i ≡ suc n + i = omega arith in ap ways same ∙ are (suc n)),
    )

-- ---- both

pub ticked : (p : Named → Bool) (s : State) (moment : ℕ)
    → all_so p 0 s.controls.outgoing
    ≡ times p (map named_by (effects_of_tick s moment).ended)
    + all_so p 0 (controls_after_all_ended 0 (ended_late s moment) (controls_closed s moment)).outgoing
ticked p s moment =
    let closed : List Bool = map (is_timed_out moment) s.clients in
    let qs : List Outgoing = s.controls.outgoing in
    let ways : ℕ → Option Accepted = λ n. way_at (slice_get qs n) in
    let told : times p (map named_by (effects_of_tick s moment).ended)
    ≡ times p (map named_by (let_go closed 0 qs))
    + times p (map named_by (late 0 s.outstations (ended_late s moment) qs)) =
    ends_append p (let_go closed 0 qs) (late 0 s.outstations (ended_late s moment) qs) in
    let lates : times p (map named_by (late 0 s.outstations (ended_late s moment) qs))
    ≡ late_so p 0 (ended_late s moment) ways =
    late_told p moment 0 s.outstations qs ways
    (λ n. let same : n + 0 ≡ n = omega arith in ap ways same) in
    omega (
      arith,
      told,
      let_go_told p closed 0 qs,
      sessions_end p closed s.controls,
      lates,
      all_ended p 0 (ended_late s moment) (controls_closed s moment) ways
          (λ n le. ways_stay 0 closed s.controls n),
    )
