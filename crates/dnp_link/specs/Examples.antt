-- Words of the worked examples.
use Rattle.std.specs.Prelude.{ℕ, Bool, List, [], ◌∷◌, ◌++◌, Option}
use Rattle.dnp_link.specs.Frame.{frame_content}
use Rattle.dnp_link.specs.Secondary.{decision_on}

-- of a frame with CONTROL C0 to address 1 from 1024: its first six octets, and all but the last one
abbrev pub first_six : List ℕ
first_six = 0x05 ∷ 0x64 ∷ 0x05 ∷ 0xC0 ∷ 0x01 ∷ 0x00 ∷ []

abbrev pub first_nine : List ℕ
first_nine = first_six ++ 0x00 ∷ 0x04 ∷ 0xE9 ∷ []

-- the decisions on frames with these CONTROL octets, from station 1 to station 1024
abbrev pub replies_to : Option Bool → List ℕ → List (Bool × Option ℕ)
replies_to expected [] = []
replies_to expected (control ∷ controls) =
    let d = decision_on (record { own = 1024; peer = 1; expected = expected }) (frame_content control 1024 1 []) in
    (d.deliver, d.reply) ∷ replies_to d.expected controls
