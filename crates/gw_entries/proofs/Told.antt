-- What is told of complaints.
use Rattle.std.proofs.Common.{◌≡◌, ℕ, List, ◌++◌, Some, ap, sym, ◌∙◌}
use Rattle.gw_entries.specs.declared.fault.Section.{Section}
use Rattle.gw_entries.specs.declared.fault.SettingsFault.{SettingsFault}
use Rattle.gw_entries.specs.declared.fault.SettingsFault.TheVariants.{Toml, Refused, Memory}
use Rattle.gw_entries.specs.Answers.{first, IsTold}
use Rattle.gw_entries.specs.Complaints.{Wrong, Complaint, complaint, placed}
use Rattle.gw_entries.specs.Faults.{complaint_at, refusal_of, refused}
use Rattle.gw_entries.proofs.First.{stop, told}

-- a fault that tells the first complaint
pub tells_first : (f : SettingsFault) (c : Complaint) (cs : List Complaint) → refusal_of f ≡ refused c
    → first cs ≡ Some c → IsTold f cs
tells_first (Toml e) c cs same h = absurd cc
tells_first (Refused fault place) c cs same h = h ∙ ap Some (sym (same_refused (complaint_at fault place) c same))
  where
    same_refused : (a b : Complaint) → refused a ≡ refused b → a ≡ b
    same_refused a b e = cc
tells_first Memory c cs same h = absurd cc

-- the first of what is wrong with an entry
pub tells_wrong : (f : SettingsFault) (section : Section) (position : ℕ) (w : Wrong) (ws : List Wrong)
    → refusal_of f ≡ refused (complaint section position w)
    → first ws ≡ Some w → IsTold f (placed section position ws)
tells_wrong f section position w ws same h = tells_first f (complaint section position w)
    (placed section position ws) same (told (complaint section position) ws w h)

-- what is told of a front is told of the whole
pub told_front : (f : SettingsFault) (cs ds : List Complaint) → IsTold f cs → IsTold f (cs ++ ds)
told_front (Toml e) cs ds h = h
told_front (Refused fault place) cs ds h = stop cs ds _ h
told_front Memory cs ds h = tt
