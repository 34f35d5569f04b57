-- What objects report of points (IEEE Std 1815, Annex A): how one is spelled, and reading a header's objects
-- one after the other. All of it follows from the table of variations.
use Rattle.std.specs.Prelude.{◌≡◌, ℕ, zero, suc, ◌+◌, Bool, true, false, List, [], ◌∷◌, ◌++◌, length, take, drop}
use Rattle.gw_model.specs.declared.point.Kind.{Kind}
use Rattle.gw_model.specs.declared.point.Kind.TheVariants.{Binary}
use Rattle.gw_model.specs.declared.point.Stamp.{Stamp}
use Rattle.gw_model.specs.declared.point.Stamp.TheVariants.{Untimed}
use Rattle.gw_model.specs.declared.point.Report.{Report}
use Rattle.dnp_objects.specs.Library.{Role, Point, CommonTime, Echo, SteppedOver, Time, time_octets, Parts, Packed, Whole, Variation}
use Rattle.dnp_objects.specs.Headers.{number}
use Rattle.dnp_points.specs.Values.{flags_of, stamp_of, number_of_bits, report_of, packed_report_of}

-- ---- how objects are spelled

abbrev pub flags_octets : Bool → ℕ
flags_octets true = 1
flags_octets false = 0

-- octets that spell an object of a point: its flags where it has any, its value, its time; and its report
pub record IsPointText (kind : Kind) (event has_flags : Bool) (width : ℕ) (time : Time)
    (outstation index : ℕ) (common : Stamp) (text : List ℕ) (report : Report) : Type 0 where
  pub flags : List ℕ
  pub value : List ℕ
  pub instant : List ℕ
  pub parts : text ≡ flags ++ (value ++ instant)
  pub flags_long : length flags ≡ flags_octets has_flags
  pub value_long : length value ≡ width
  pub instant_long : length instant ≡ time_octets time
  pub told : report ≡ report_of outstation index kind event (flags_of flags) value (stamp_of time common instant)

-- octets that spell an object, and its reports: one of its point, or none; packed objects of points aren't spelled
-- in whole octets
abbrev pub IsTextOf : Role → Parts → Bool → ℕ → ℕ → Stamp → List ℕ → List Report → Type 0
IsTextOf (Point kind) (Whole has_flags width time) event outstation index common text rs =
    (r : Report) × IsPointText kind event has_flags width time outstation index common text r × (rs ≡ r ∷ [])
IsTextOf (Point kind) (Packed bits) event outstation index common text rs = ⊥
IsTextOf CommonTime parts event outstation index common text rs = rs ≡ []
IsTextOf Echo parts event outstation index common text rs = rs ≡ []
IsTextOf SteppedOver parts event outstation index common text rs = rs ≡ []

abbrev pub IsObjectText : Variation → ℕ → ℕ → Stamp → List ℕ → List Report → Type 0
IsObjectText v = IsTextOf v.role v.parts v.event

-- what a packed object with this state reports
abbrev pub packed_reports_by_role : Role → Bool → ℕ → ℕ → ℕ → List Report
packed_reports_by_role (Point kind) event outstation index state =
    packed_report_of outstation index kind event state ∷ []
packed_reports_by_role CommonTime event outstation index state = []
packed_reports_by_role Echo event outstation index state = []
packed_reports_by_role SteppedOver event outstation index state = []

abbrev pub packed_reports : Variation → ℕ → ℕ → List ℕ → List Report
packed_reports v outstation index bits = packed_reports_by_role v.role v.event outstation index (number_of_bits bits)

-- the index of an object: that before it, where one stands there, and else it counts on from the range's start
abbrev pub index_of : ℕ → List ℕ → ℕ
index_of next [] = next
index_of next (octet ∷ octets) = number (octet ∷ octets)

-- octets that are so many objects of this length, each after its index, and their reports
abbrev pub AreWhole : Variation → ℕ → ℕ → Stamp → ℕ → ℕ → ℕ → List ℕ → List Report → Type 0
AreWhole v long outstation common prefix next zero octets rs = (octets ≡ []) × (rs ≡ [])
AreWhole v long outstation common prefix next (suc n) octets rs =
    (index : List ℕ) × (text : List ℕ) × (rest : List ℕ) × (one : List Report) × (others : List Report)
    × (octets ≡ index ++ (text ++ rest)) × (length index ≡ prefix) × (length text ≡ long)
    × IsObjectText v outstation (index_of next index) common text one
    × (rs ≡ one ++ others) × AreWhole v long outstation common prefix (next + 1) n rest others

-- bits that begin with so many objects of so many bits, and their reports; the bits that are left over fill up
abbrev pub ArePacked : Variation → ℕ → ℕ → ℕ → ℕ → List ℕ → List Report → Type 0
ArePacked v width outstation next zero bits rs = rs ≡ []
ArePacked v width outstation next (suc n) bits rs = (own : List ℕ) × (rest : List ℕ) × (others : List Report)
    × (bits ≡ own ++ rest) × (length own ≡ width)
    × (rs ≡ packed_reports v outstation next own ++ others) × ArePacked v width outstation (next + 1) n rest others

-- ---- reading one after the other

-- what an object of a point with these octets reports
unfoldable pub point_report : Kind → Bool → Bool → ℕ → Time → ℕ → ℕ → Stamp → List ℕ → Report
point_report kind event has_flags width time outstation index common text =
    let behind = drop (flags_octets has_flags) text in
    let flags = flags_of (take (flags_octets has_flags) text) in
    report_of outstation index kind event flags (take width behind) (stamp_of time common (drop width behind))

abbrev pub reports_by_role : Role → Parts → Bool → ℕ → ℕ → Stamp → List ℕ → List Report
reports_by_role (Point kind) (Whole has_flags width time) event outstation index common text =
    point_report kind event has_flags width time outstation index common text ∷ []
reports_by_role (Point kind) (Packed bits) event outstation index common text = []
reports_by_role CommonTime parts event outstation index common text = []
reports_by_role Echo parts event outstation index common text = []
reports_by_role SteppedOver parts event outstation index common text = []

-- what an object with these octets reports
abbrev pub object_reports : Variation → ℕ → ℕ → Stamp → List ℕ → List Report
object_reports v = reports_by_role v.role v.parts v.event

abbrev pub whole_from : Variation → ℕ → ℕ → Stamp → ℕ → ℕ → ℕ → List ℕ → List Report
whole_from v long outstation common prefix next zero octets = []
whole_from v long outstation common prefix next (suc n) octets =
    let behind = drop prefix octets in
    object_reports v outstation (index_of next (take prefix octets)) common (take long behind)
    ++ whole_from v long outstation common prefix (next + 1) n (drop long behind)

abbrev pub packed_from : Variation → ℕ → ℕ → ℕ → ℕ → List ℕ → List Report
packed_from v width outstation next zero bits = []
packed_from v width outstation next (suc n) bits =
    packed_reports v outstation next (take width bits) ++ packed_from v width outstation (next + 1) n (drop width bits)

-- the report of a binary input event without time (group 2, variation 1)
abbrev pub binary_report : ℕ → ℕ → ℕ → Report
binary_report outstation index flags = report_of outstation index Binary true flags [] Untimed
