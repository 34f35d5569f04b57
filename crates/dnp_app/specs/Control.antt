-- The octets of an application control field (IEEE Std 1815, 4.2.2.4).
use Rattle.std.specs.Prelude.{ℕ, ◌+◌, ◌/◌, ◌%◌, Bool, ◌==◌, nat_le, List, []}
use Rattle.std.specs.Prelude.{◌∷◌, Option, Some, None, slice_index, if◌then◌else◌}
use Rattle.dnp_app.specs.declared.response.ApplicationControl.{ApplicationControl}

-- bit 7 FIR, 6 FIN, 5 CON, 4 UNS, 0 to 3 the sequence number
abbrev pub control_of : ℕ → ApplicationControl
control_of octet =
    record {
      fir = nat_le 128 octet;
      fin = (octet / 64) % 2 == 1;
      con = (octet / 32) % 2 == 1;
      uns = (octet / 16) % 2 == 1;
      sequence = octet % 16;
    }

-- a confirmation (function 0): FIR and FIN, UNS where an unsolicited response is confirmed, and its sequence number
abbrev pub confirmation_of : ℕ → Bool → List ℕ
confirmation_of sequence uns = (192 + sequence + (if uns then 16 else 0)) ∷ 0 ∷ []

-- the confirmation of a fragment, where its application control asks for one
abbrev pub confirm_of : List ℕ → Option (List ℕ)
confirm_of octets =
    let control = control_of (slice_index octets 0) in
    if control.con then Some (confirmation_of control.sequence control.uns) else None
