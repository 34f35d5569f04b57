-- What the secondary station's answer to a frame says.
use Rattle.std.specs.Prelude.{ℕ, Bool, true, false, List, Option, Some, None, if◌then◌else◌}
use Rattle.dnp_link.specs.declared.secondary.Answer.{Answer}
use Rattle.dnp_link.specs.declared.secondary.Answer.TheVariants.{Deliver, Reply, Both, Ignore}

-- the answer hands the user data on
abbrev pub is_delivery : Answer → Bool
is_delivery Deliver = true
is_delivery (Both reply) = true
is_delivery (Reply reply) = false
is_delivery Ignore = false

-- these user data, where the answer hands them on
abbrev pub handed_on : Answer → List ℕ → Option (List ℕ)
handed_on answer user = if is_delivery answer then Some user else None

-- the reply in the answer
abbrev pub reply_in : Answer → Option (List ℕ)
reply_in Deliver = None
reply_in (Both reply) = Some reply
reply_in (Reply reply) = Some reply
reply_in Ignore = None
