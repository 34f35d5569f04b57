-- What is left of three fragments.
use Rattle.std.proofs.Common.{◌≡◌, List, [], ◌∷◌, Some, refl, ap, ◌∙◌}
use Rattle.dnp_app.specs.Response.{Fragment}
use Rattle.run_ends.specs.declared.worker_end.WorkerEnd.TheVariants as ends
use Rattle.gw_threads.specs.Heard.{IsSaid}

pub one_left : (f g h : Fragment) → IsSaid (f ∷ g ∷ h ∷ []) (f ∷ g ∷ []) (Some ends.Stopping)
one_left f g h = record { left = h ∷ []; same = refl; may = tt }

pub none_left : (f g h : Fragment) → IsSaid (f ∷ g ∷ h ∷ []) (f ∷ g ∷ []) (Some ends.EndOfInput) → ⊥
none_left f g h said = shorter (said.same ∙ ap (λ (l : List Fragment). f ∷ g ∷ l) said.may)
  where
    shorter : f ∷ g ∷ h ∷ [] ≡ f ∷ g ∷ [] → ⊥
    shorter is = absurd (cc is)
