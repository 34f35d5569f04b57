-- What a feed that was given nothing holds back.
use Rattle.std.proofs.Common.{◌≡◌, ◌∙◌, ℕ, List, [], sym, ap, subst}
use Rattle.iec_apci.specs.Calls.{reading_of_ending}
use Rattle.iec_apci.specs.Stream.{Ending, Open, Reading}
use Rattle.iec_apci.proofs.Drained.{reading_nil}
use Rattle.gw_threads.specs.Heard.{IsDrained}
use Rattle.gw_threads.proofs.Hearing.{nothing_held}

-- it says no APDU
pub apdus_none : (e : Ending) → e ≡ Open [] → (reading_of_ending e).apdus ≡ []
apdus_none e is =
    ap (λ (x : Ending). (reading_of_ending x).apdus) is ∙ ap (λ (r : Reading). r.apdus) reading_nil

-- it shows no event of the link
pub link_none : (held : List ℕ) → held ≡ [] → IsDrained held
link_none held is = subst IsDrained (sym is) nothing_held
