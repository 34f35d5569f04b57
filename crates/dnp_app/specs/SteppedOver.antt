-- The objects of a response that mean nothing here and are stepped over by their length.
use Rattle.std.specs.Prelude.{ℕ, Bool, true, false, List, Option, Some, None}
use Rattle.std.specs.List.{sum_by, filter}
use Rattle.dnp_objects.specs.declared.header.Header.{Header}
use Rattle.dnp_objects.specs.Library.{Variation, Role, Point, CommonTime, Echo, SteppedOver, object_of}
use Rattle.dnp_app.specs.Echo.{headers_in}

abbrev pub is_for_nothing : Role → Bool
is_for_nothing SteppedOver = true
is_for_nothing Echo = false
is_for_nothing CommonTime = false
is_for_nothing (Point kind) = false

abbrev pub is_known_for_nothing : Option Variation → Bool
is_known_for_nothing None = false
is_known_for_nothing (Some v) = is_for_nothing v.role

-- the objects of a group and a variation number are stepped over
abbrev pub is_stepped_over : ℕ → ℕ → Bool
is_stepped_over group number = is_known_for_nothing (object_of group number)

-- how many objects under these headers are stepped over
abbrev pub stepped_over_count : List Header → ℕ
stepped_over_count hs = sum_by (λ h. h.count) (filter (λ h. is_stepped_over h.group h.variation) hs)

-- how many objects of a fragment are stepped over
abbrev pub stepped_over_count_of : List ℕ → ℕ
stepped_over_count_of octets = stepped_over_count (headers_in octets)
