-- What a response fragment is (IEEE Std 1815, 4.2.2): application control, function 129 or 130, two octets of
-- internal indications, and an object part.
use Rattle.std.specs.Prelude.{◌≡◌, ℕ, ◌≤◌, Bool, true, false, ◌||◌, ◌==◌, List, [], length}
use Rattle.std.specs.Prelude.{drop, slice_index, Result, Ok, Err, nat_lt, if◌then◌else◌}
use Rattle.std.specs.Result.{result_unwrap_or}
use Rattle.gw_model.specs.declared.point.Report.{Report}
use Rattle.dnp_objects.specs.declared.fault.ObjectFault.{ObjectFault}
use Rattle.dnp_objects.specs.Headers.{IsStoredAt}
use Rattle.dnp_points.specs.Meaning.{Means, meaning_of}
use Rattle.dnp_app.specs.declared.fault.AppFault.{AppFault}
use Rattle.dnp_app.specs.declared.fault.AppFault.TheVariants.{Short, NotResponse, Object, Memory}

-- a response: the outstation that it was read for, its octets, and what it reports
pub record Fragment : Type 0 where
  pub outstation : ℕ
  pub octets : List ℕ
  pub reports : List Report

abbrev pub fragment_of : ℕ → List ℕ → List Report → Fragment
fragment_of outstation octets reports = record { outstation = outstation; octets = octets; reports = reports }

-- function 129 is a response, 130 an unsolicited response
abbrev pub is_response : List ℕ → Bool
is_response octets = (slice_index octets 1 == 129) || (slice_index octets 1 == 130)

-- function 130 is an unsolicited response
abbrev pub is_unsolicited : Fragment → Bool
is_unsolicited f = slice_index f.octets 1 == 130

-- the octets are a response that reports this
pub record IsResponse (f : Fragment) : Type 0 where
  pub long : 4 ≤ length f.octets
  pub function : is_response f.octets ≡ true
  pub means : Means f.outstation (drop 4 f.octets) f.reports

-- the response that octets spell; without reports where they spell none
abbrev pub fragment_spelt : ℕ → List ℕ → Fragment
fragment_spelt outstation octets =
    fragment_of outstation octets (result_unwrap_or (meaning_of outstation (drop 4 octets)) [])

-- octets of a response with a header in its object part that is read and stored
pub record StoresHeader (octets : List ℕ) : Type 0 where
  pub long : 4 ≤ length octets
  pub function : is_response octets ≡ true
  pub place : ℕ
  pub header : IsStoredAt (drop 4 octets) place

-- the response with an object part that was read, or the fault of that part
abbrev pub with_reports : ℕ → List ℕ → Result (List Report) ObjectFault → Result Fragment AppFault
with_reports outstation octets (Ok reports) = Ok (fragment_of outstation octets reports)
with_reports outstation octets (Err e) = Err (Object e)

-- the response that octets are, or the first fault
abbrev pub response_of : ℕ → List ℕ → Result Fragment AppFault
response_of outstation octets =
    if nat_lt (length octets) 4 then Err Short
    else if is_response octets then with_reports outstation octets (meaning_of outstation (drop 4 octets))
    else Err NotResponse

-- octets are refused for this fault: the first that reading meets; memory runs out only where a header of a response
-- is stored
abbrev pub IsRefused : ℕ → AppFault → List ℕ → Type 0
IsRefused outstation Memory octets = StoresHeader octets
IsRefused outstation Short octets = response_of outstation octets ≡ Err Short
IsRefused outstation NotResponse octets = response_of outstation octets ≡ Err NotResponse
IsRefused outstation (Object e) octets = response_of outstation octets ≡ Err (Object e)

-- the fault is that memory ran out
abbrev pub is_memory : AppFault → Bool
is_memory Memory = true
is_memory Short = false
is_memory NotResponse = false
is_memory (Object e) = false
