-- The command that a response echoes (IEEE Std 1815, 4.2.2.7 and Annex A): a response to SELECT, OPERATE or
-- DIRECT_OPERATE gives the command's objects back, each with a status in its last octet.
use Rattle.std.specs.Prelude.{◌≡◌, ℕ, ◌+◌, ◌-◌, ◌*◌, ◌≤◌, ◌==◌, Bool, false, ◌&&◌}
use Rattle.std.specs.Prelude.{List, [], ◌∷◌, ◌++◌, length, take, drop, replicate, slice_index}
use Rattle.std.specs.Prelude.{Option, Some, None, option_map, option_and_then, if◌then◌else◌, IfSome}
use Rattle.std.specs.List.{All, filter_map}
use Rattle.std.specs.Result.{result_unwrap_or}
use Rattle.std.specs.Str.{bytes_eq}
use Rattle.gw_model.specs.declared.control.Act.{Act}
use Rattle.dnp_objects.specs.declared.header.Header.{Header}
use Rattle.dnp_objects.specs.declared.object.Size.{Size}
use Rattle.dnp_objects.specs.declared.object.Size.TheVariants.{Octets, Bits}
use Rattle.dnp_objects.specs.Library.{Variation, Role, Point, CommonTime, Echo as Command, SteppedOver, object_of, size_of}
use Rattle.dnp_objects.specs.Headers.{number, headers_of, IsPart}
use Rattle.dnp_app.specs.declared.echoed.Echo.{Echo}
use Rattle.dnp_app.specs.Requests.{group_of, command_object}

-- ---- what an echo is

-- the body of an echo: the octets of a command before its status, filled up by zeros
abbrev pub body_of : List ℕ → List ℕ
body_of octets = octets ++ replicate (11 - length octets) 0

-- under this header of a part stands one command and nothing else: an index, the command's octets, and its status
pub record StandsAlone (part : List ℕ) (h : Header) (e : Echo) : Type 0 where
  pub variation : Variation
  pub index : List ℕ
  pub octets : List ℕ
  pub rest : List ℕ
  pub known : object_of h.group h.variation ≡ Some variation
  pub command : variation.role ≡ Command
  pub single : h.count ≡ 1
  pub parts : drop h.start part ≡ index ++ (octets ++ e.status ∷ rest)
  pub prefixed : length index ≡ h.prefix
  pub sized : size_of variation ≡ Octets (length octets + 1)
  pub numbered : e.index ≡ number index
  pub grouped : e.group ≡ h.group
  pub told : e.body ≡ body_of octets

-- under one header of a part, and no other, stands one command and nothing else
pub record IsEcho (part : List ℕ) (e : Echo) : Type 0 where
  pub before : List Header
  pub header : Header
  pub after : List Header
  pub headers : IsPart part (before ++ header ∷ after)
  pub alone : StandsAlone part header e
  pub no_other : All (λ h. (x : Echo) → StandsAlone part h x → ⊥) (before ++ after)

-- ---- by reading

-- the headers of a fragment's object part; none where the part is at fault
abbrev pub headers_in : List ℕ → List Header
headers_in octets = result_unwrap_or (headers_of (drop 4 octets)) []

abbrev pub whole_octets : Size → Option ℕ
whole_octets (Octets octets) = Some octets
whole_octets (Bits bits) = None

abbrev pub command_octets : Role → Size → Option ℕ
command_octets Command size = whole_octets size
command_octets (Point kind) size = None
command_octets CommonTime size = None
command_octets SteppedOver size = None

-- the octets of an object of a group and a variation number, where these are a command
abbrev pub command_length : ℕ → ℕ → Option ℕ
command_length group number = option_and_then (λ v. command_octets v.role (size_of v)) (object_of group number)

-- a command of a group behind its index; the last octet is its status
abbrev pub echo_with : ℕ → List ℕ → List ℕ → Echo
echo_with group index object =
    let last = length object - 1 in
    record {
      index = number index;
      group = group;
      body = body_of (take last object);
      status = slice_index object last;
    }

-- the first command of a header of a part, of so many octets
abbrev pub first_echo : List ℕ → Header → ℕ → Echo
first_echo part h octets =
    echo_with h.group (take h.prefix (drop h.start part)) (take octets (drop (h.start + h.prefix) part))

-- the command that stands alone under a header, where one does
abbrev pub lone_echo : List ℕ → Header → Option Echo
lone_echo part h =
    if h.count == 1 then option_map (first_echo part h) (command_length h.group h.variation) else None

-- the commands of a part that stand alone under their header
abbrev pub lone_echoes : List ℕ → List Header → List Echo
lone_echoes part hs = filter_map (lone_echo part) hs

-- what a list has where it has one thing
abbrev pub only_one : {A : Type 0} → List A → Option A
only_one [] = None
only_one (x ∷ []) = Some x
only_one (x ∷ y ∷ rest) = None

-- the echo in a fragment
abbrev pub echo_of : List ℕ → Option Echo
echo_of octets = only_one (lone_echoes (drop 4 octets) (headers_in octets))

-- a header of a part, and its objects where they are commands: within the part, each behind an index of two octets
-- at most
pub record HasCommandsWithin (part : List ℕ) (h : Header) : Type 0 where
  pub prefix : h.prefix ≤ 2
  pub inside :
      IfSome (command_length h.group h.variation) (λ octets. h.start + h.count * (h.prefix + octets) ≤ length part)

-- ---- what was sent, given back

-- the command in an object part
abbrev pub command_in : List ℕ → Option Echo
command_in part = only_one (lone_echoes part (result_unwrap_or (headers_of part) []))

-- the echo of an act on an output that the outstation took: the object as it was sent, with status 0
abbrev pub echo_taken : ℕ → Act → Echo
echo_taken index act = record { index = index; group = group_of act; body = body_of (command_object act); status = 0 }

abbrev pub is_same_echo : Echo → Echo → Bool
is_same_echo e other =
    (e.index == other.index) && (e.group == other.group) && (e.status == other.status) && bytes_eq e.body other.body

-- an echo says that the outstation took an act on an output
abbrev pub is_taken : ℕ → Act → Option Echo → Bool
is_taken index act None = false
is_taken index act (Some e) = is_same_echo e (echo_taken index act)
