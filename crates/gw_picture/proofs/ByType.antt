-- A picture shows each row of the map by its object and its type: at first, after reports, and after a loss.
use Rattle.std.proofs.Common.{◌≡◌, ℕ, zero, suc, ◌+◌, Bool, true, false, cond, List, []}
use Rattle.std.proofs.Common.{◌∷◌, map, Option, Some, None, refl, sym, subst, inl, inr}
use Rattle.std.specs.Prelude.{slice_get, IsTrue}
use Rattle.std.proofs.lemmas.Bool.{and_parts, cases_Bool}
use Rattle.gw_model.specs.declared.point.Kind.{Kind}
use Rattle.gw_model.specs.declared.point.Kind.TheVariants as kinds
use Rattle.gw_model.specs.declared.point.PointKey.{PointKey}
use Rattle.gw_model.specs.declared.point.Raw.{Raw}
use Rattle.gw_model.specs.declared.point.Raw.TheVariants.{Bit, Two, Count, Number}
use Rattle.gw_model.specs.declared.point.Report.{Report}
use Rattle.gw_model.specs.declared.point.Stamp.{Stamp}
use Rattle.gw_model.specs.declared.observation.Quality.{Quality}
use Rattle.gw_model.specs.declared.observation.Observation.{Observation}
use Rattle.gw_model.specs.Keys.{same_kind, same_key}
use Rattle.gw_model.specs.Places.{change}
use Rattle.gw_model.specs.Point.{is_of_kind}
use Rattle.gw_entries.specs.declared.row.Row.{Row}
use Rattle.gw_entries.specs.declared.row.Scale.{Scale}
use Rattle.gw_entries.specs.declared.row.Show.{Show}
use Rattle.gw_entries.specs.declared.row.Show.TheVariants as shows
use Rattle.gw_entries.specs.Shown.{is_shown_by}
use Rattle.gw_map.specs.Settings.{row_from}
use Rattle.gw_translate.specs.Image.{raw_image, image_of}
use Rattle.gw_picture.specs.Opening.{opening, value_at_first}
use Rattle.gw_picture.specs.Picture.{without_time, picture_by_row, picture_after_report, picture_after}
use Rattle.gw_picture.specs.Loss.{lost, is_lost_with, shown_after_loss, picture_after_loss}
use Rattle.gw_picture.specs.Shown.{is_value_of, ShowsRow, ShowsRows}
use Rattle.gw_model.specs.declared.point.ObjectKey.{ObjectKey}
use Rattle.gw_model.specs.Clocks.{Clocks}
use Rattle.gw_picture.proofs.Images.{image_object}
use Rattle.gw_picture.proofs.Logs.{pair, pair_is}
use Rattle.gw_picture.proofs.Lists.{some_is}
use Rattle.gw_picture.proofs.Rows.{row_at}

-- ---- at first

opening_value : (show : Show) → IsTrue (is_value_of show (value_at_first show))
opening_value shows.Total = refl
opening_value _ = refl

pub opening_rows : (rows : List Row) → ShowsRows rows (map opening rows)
opening_rows [] = tt
opening_rows (row ∷ rows) = (record { object = refl; value = opening_value row.show }, opening_rows rows)

-- ---- after reports

-- an image is of the type by which its row shows points of the report's kind
image_value : (kind : Kind) (show : Show) (scale : Scale) (raw : Raw) (q : Quality) (object : ObjectKey) (stamp : Stamp)
    → is_shown_by kind show ≡ true → is_of_kind kind raw ≡ true
    → is_value_of show (raw_image show scale raw q object stamp).value ≡ true
image_value kinds.Binary shows.Single scale (Bit on) q object stamp shown of = refl
image_value kinds.Output shows.Single scale (Bit on) q object stamp shown of = refl
image_value kinds.Double shows.Double scale (Two state) q object stamp shown of = refl
image_value kinds.Counter shows.Total scale (Count n) q object stamp shown of = refl
image_value kinds.Analog shows.Scaled scale (Number z) q object stamp shown of = refl
image_value kinds.Analog shows.Word scale (Number z) q object stamp shown of = refl
image_value _ _ scale _ q object stamp shown of = absurd cc

one_kind : (a b : Kind) → same_kind a b ≡ true → a ≡ b
one_kind kinds.Binary kinds.Binary e = refl
one_kind kinds.Output kinds.Output e = refl
one_kind kinds.Double kinds.Double e = refl
one_kind kinds.Counter kinds.Counter e = refl
one_kind kinds.Analog kinds.Analog e = refl
one_kind _ _ e = absurd cc

-- the row that is found has the kind of the key
found_kind : (k n : ℕ) (key : PointKey) (rows : List Row) (row : Row) → row_from k key rows ≡ Some (n, row)
    → row.key.kind ≡ key.kind
found_kind k n key [] row e = absurd cc
found_kind k n key (r ∷ rows) row e =
    elim (cases_Bool (same_key r.key key)) [
      | inl here ↦
          (let found : pair k r ≡ pair n row = rw here at e in
          let same = and_parts _ _ (and_parts _ _ here).0 in
          subst (λ (x : Row). x.key.kind ≡ key.kind) (pair_is k n r row found).1 (one_kind r.key.kind key.kind same.1))
      | inr there ↦ (let found : row_from (k + 1) key rows ≡ Some (n, row) = rw there at e in
          found_kind (k + 1) n key rows row found)
    ]

image_shows : (clocks : Clocks) (row : Row) (r : Report) → row.key.kind ≡ r.key.kind
    → ShowsRow row (without_time (image_of clocks row r))
image_shows clocks row r same = record {
  object = image_object clocks row r;
  value = image_value row.key.kind row.show row.scale r.raw _ _ _ row.shown
      (subst (λ (kind : Kind). is_of_kind kind r.raw ≡ true) (sym same) r.of_kind);
}

-- a row is shown anew
row_anew : (n : ℕ) (row : Row) (x : Observation) (rows : List Row) (picture : List Observation)
    → slice_get rows n ≡ Some row → ShowsRow row x
    → ShowsRows rows picture → ShowsRows rows (change n (λ _. x) picture)
row_anew n row x [] [] at shows all = tt
row_anew n row x [] (y ∷ picture) at shows all = absurd all
row_anew n row x (r ∷ rows) [] at shows all = absurd all
row_anew zero row x (r ∷ rows) (y ∷ picture) at shows all =
    (subst (λ (other : Row). ShowsRow other x) (sym (some_is r row at)) shows, all.1)
row_anew (suc n) row x (r ∷ rows) (y ∷ picture) at shows all = (all.0, row_anew n row x rows picture at shows all.1)

report_rows : (clocks : Clocks) (rows : List Row) (picture : List Observation) (r : Report) → ShowsRows rows picture
    → ShowsRows rows (picture_after_report clocks rows picture r)
report_rows clocks rows picture r all = go (row_from 0 r.key rows) refl
  where
    go : (found : Option (ℕ × Row)) → row_from 0 r.key rows ≡ found
        → ShowsRows rows (picture_by_row clocks picture r found)
    go None e = all
    go (Some p) e =
        row_anew p.0 p.1 (without_time (image_of clocks p.1 r)) rows picture (row_at r.key rows p.0 p.1 e)
        (image_shows clocks p.1 r (found_kind 0 p.0 r.key rows p.1 e)) all

pub reports_rows : (clocks : Clocks) (rows : List Row) (picture : List Observation) (rs : List Report)
    → ShowsRows rows picture → ShowsRows rows (picture_after clocks rows picture rs)
reports_rows clocks rows picture [] all = all
reports_rows clocks rows picture (r ∷ rs) all =
    reports_rows clocks rows (picture_after_report clocks rows picture r) rs (report_rows clocks rows picture r all)

-- ---- after a loss

row_lost : (outstation : ℕ) (row other : Row) (x : Observation) → ShowsRow row x
    → ShowsRow row (shown_after_loss outstation other x)
row_lost outstation row other x shows = go (is_lost_with outstation other x)
  where
    go : (b : Bool) → ShowsRow row (cond b (lost x) x)
    go true = record { object = shows.object; value = shows.value }
    go false = shows

pub loss_rows : (outstation : ℕ) (rows : List Row) (picture : List Observation) → ShowsRows rows picture
    → ShowsRows rows (picture_after_loss outstation rows picture)
loss_rows outstation [] picture all = all
loss_rows outstation (row ∷ rows) [] all = all
loss_rows outstation (row ∷ rows) (x ∷ picture) all =
    (row_lost outstation row row x all.0, loss_rows outstation rows picture all.1)
