-- What functions answer that read settings: the value, where nothing is wrong, or the first of what is wrong.
use Rattle.std.specs.Prelude.{◌≡◌, List, [], ◌∷◌, Option, Some, None, Result, Ok, Err}
use Rattle.gw_entries.specs.declared.fault.KeyFault.{KeyFault}
use Rattle.gw_entries.specs.declared.fault.SettingsFault.{SettingsFault}
use Rattle.gw_entries.specs.declared.fault.SettingsFault.TheVariants.{Toml, Refused, Memory}
use Rattle.gw_entries.specs.Complaints.{Wrong, Complaint}
use Rattle.gw_entries.specs.Faults.{complaint_at}

unfoldable pub first : {A : Type 0} → List A → Option A
first [] = None
first (x ∷ xs) = Some x

abbrev pub wrong_of : KeyFault → Wrong
wrong_of fault = (fault.fault, fault.key.now)

abbrev pub IsTold : SettingsFault → List Complaint → Type 0
IsTold (Toml error) complaints = ⊥
IsTold (Refused fault place) complaints = first complaints ≡ Some (complaint_at fault place)
IsTold Memory complaints = Unit {0}

abbrev pub Tells : {X Y : Type 0} → (X → Y) → Result X SettingsFault → List Complaint → Y → Type 0
Tells view (Ok x) complaints value = (complaints ≡ []) × (view x ≡ value)
Tells view (Err fault) complaints value = IsTold fault complaints

-- an answer without a value
abbrev pub Passes : {X : Type 0} → Result X SettingsFault → List Complaint → Type 0
Passes (Ok x) complaints = complaints ≡ []
Passes (Err fault) complaints = IsTold fault complaints
