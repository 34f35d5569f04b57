-- What is answered to a request.
use Rattle.std.specs.Prelude.{◌≡◌, ◌≤◌, ◌⊎◌, ◌++◌, ℕ, Bool, ◌||◌, ◌==◌, Result, Ok, Err, Option, Some}
use Rattle.std.specs.Prelude.{None, List, codes, false, if◌then◌else◌, drop, length, nat_eq, position, take}
use Rattle.std.specs.Io.KnownBytes.{Consumes}
use Rattle.std.specs.List.{starts_with}
use Rattle.std.specs.Str.{bytes_eq}
use Rattle.httparse.specs.Grammar.{HasNoRequest, MayBecomeRequest, NeverHasRequest, ReadsRequest, RequestHead}
use Rattle.httparse.specs.Spans.{RequestOverflows}
use Rattle.run_http.specs.declared.request.Resource.{Resource}
use Rattle.run_http.specs.declared.request.Resource.TheVariants.{Alive, Health, Metrics, Page, Points, PointsCsv, PointsJson}
use Rattle.run_http.specs.declared.request.RequestFault.{RequestFault}
use Rattle.run_http.specs.declared.request.RequestFault.TheVariants.{Malformed, NotAllowed, NotFound, TooLong}
use Rattle.run_http.specs.declared.request.HttpRequest.{HttpRequest}

-- the front before a place, or all
abbrev pub before : List ℕ → Option ℕ → List ℕ
before target None = target
before target (Some i) = take i target

-- where the query of a target begins: at the first question mark
abbrev pub query_in : List ℕ → Option ℕ
query_in = position (λ x. x == 63)

-- what stands before the query of a target
abbrev pub before_query : List ℕ → List ℕ
before_query target = before target (query_in target)

-- what stands from a place on, or the root
abbrev pub from_place : List ℕ → Option ℕ → List ℕ
from_place target None = codes "/"
from_place target (Some i) = drop i target

-- where a host ends, if a path follows: at the first slash
abbrev pub host_end : List ℕ → Option ℕ
host_end = position (λ x. x == 47)

-- the path behind a host; the root where none is written
abbrev pub behind_host : List ℕ → List ℕ
behind_host target = from_place target (host_end target)

-- the path of what stands before a query: in absolute form (RFC 9112, 3.2.2) it stands behind the host
abbrev pub path_in : List ℕ → List ℕ
path_in target = if starts_with nat_eq target (codes "http://") then behind_host (drop 7 target) else target

-- the path of a target, to which a query does not belong
abbrev pub path_of : List ℕ → List ℕ
path_of target = path_in (before_query target)

-- what lies at a path
abbrev pub found_at : List ℕ → Result Resource RequestFault
found_at path =
    if bytes_eq path (codes "/") then Ok Page
    else if bytes_eq path (codes "/metrics") then Ok Metrics
    else if bytes_eq path (codes "/alive") then Ok Alive
    else if bytes_eq path (codes "/health") then Ok Health
    else if bytes_eq path (codes "/points") then Ok Points
    else if bytes_eq path (codes "/points.csv") then Ok PointsCsv
    else if bytes_eq path (codes "/points.json") then Ok PointsJson
    else Err NotFound

abbrev pub is_head : List ℕ → Bool
is_head method = bytes_eq method (codes "HEAD")

-- what is asked for where the method may be either of two
abbrev pub allowed : Result Resource RequestFault → Bool → Result Resource RequestFault
allowed (Ok asked) may_be = if may_be then Ok asked else Err NotAllowed
allowed (Err refusal) may_be = Err refusal

-- what a request is answered, by its method and its target
abbrev pub request_of : List ℕ → List ℕ → HttpRequest
request_of method target = record {
  asked = allowed (found_at (path_of target)) (bytes_eq method (codes "GET") || is_head method);
  is_head = is_head method;
}

-- one that is refused before it is known
abbrev pub refused : RequestFault → HttpRequest
refused refusal = record { asked = Err refusal; is_head = false }

-- what the octets that came so far are answered: nothing while more of them may make a head
pub record IsAnswered (octets : List ℕ) (answered : Option HttpRequest) : Type 0 where
  -- a whole head with at most 64 fields, by its method and its target
  pub whole : (head : RequestHead) (rest : List ℕ) → ReadsRequest octets head rest → length head.fields ≤ 64
      → answered ≡ Some (request_of head.method head.target)
  pub nothing : answered ≡ None → HasNoRequest octets × MayBecomeRequest octets
  pub malformed : answered ≡ Some (refused Malformed) → NeverHasRequest octets
  pub too_long : answered ≡ Some (refused TooLong)
      → RequestOverflows 64 octets ⊎ ((4096 ≤ length octets) × HasNoRequest octets)

-- a reader gave a piece more
pub record ReadsOn (old new : Option (List ℕ)) (before after : List ℕ) : Type 0 where
  pub piece : List ℕ
  pub consumed : Consumes old new piece
  pub after_is : after ≡ before ++ piece

-- the octets that a reader gave are at most 4,096, and are answered by this request
pub record IsReceived (old new : Option (List ℕ)) (request : HttpRequest) : Type 0 where
  pub octets : List ℕ
  pub consumed : Consumes old new octets
  pub few : length octets ≤ 4096
  pub answered : IsAnswered octets (Some request)
