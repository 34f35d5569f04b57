-- Which groups are unknown.
use Rattle.std.proofs.Common.{◌≡◌, ◌≢◌, ℕ, false, eqb, None, refl}
use Rattle.std.proofs.lemmas.Bool.{ne_eqb}
use Rattle.dnp_objects.specs.Library.{object_of, form_of}

-- of a group that no row has, nothing is known
pub unknown : (group number : ℕ) → group ≢ 1 → group ≢ 2 → group ≢ 3 → group ≢ 4 → group ≢ 10 → group ≢ 11 → group ≢ 12
    → group ≢ 13 → group ≢ 20 → group ≢ 21 → group ≢ 22 → group ≢ 23 → group ≢ 30 → group ≢ 32 → group ≢ 40 → group ≢ 41
    → group ≢ 42 → group ≢ 51 → group ≢ 110 → group ≢ 111 → form_of group number ≡ None
unfolding object_of
unknown group number n1 n2 n3 n4 n10 n11 n12 n13 n20 n21 n22 n23 n30 n32 n40 n41 n42 n51 n110 n111 =
    let e1 : eqb group 1 ≡ false = ne_eqb group 1 n1 in
    let e2 : eqb group 2 ≡ false = ne_eqb group 2 n2 in
    let e3 : eqb group 3 ≡ false = ne_eqb group 3 n3 in
    let e4 : eqb group 4 ≡ false = ne_eqb group 4 n4 in
    let e10 : eqb group 10 ≡ false = ne_eqb group 10 n10 in
    let e11 : eqb group 11 ≡ false = ne_eqb group 11 n11 in
    let e12 : eqb group 12 ≡ false = ne_eqb group 12 n12 in
    let e13 : eqb group 13 ≡ false = ne_eqb group 13 n13 in
    let e20 : eqb group 20 ≡ false = ne_eqb group 20 n20 in
    let e21 : eqb group 21 ≡ false = ne_eqb group 21 n21 in
    let e22 : eqb group 22 ≡ false = ne_eqb group 22 n22 in
    let e23 : eqb group 23 ≡ false = ne_eqb group 23 n23 in
    let e30 : eqb group 30 ≡ false = ne_eqb group 30 n30 in
    let e32 : eqb group 32 ≡ false = ne_eqb group 32 n32 in
    let e40 : eqb group 40 ≡ false = ne_eqb group 40 n40 in
    let e41 : eqb group 41 ≡ false = ne_eqb group 41 n41 in
    let e42 : eqb group 42 ≡ false = ne_eqb group 42 n42 in
    let e51 : eqb group 51 ≡ false = ne_eqb group 51 n51 in
    let e110 : eqb group 110 ≡ false = ne_eqb group 110 n110 in
    let e111 : eqb group 111 ≡ false = ne_eqb group 111 n111 in
    rw (e1, e2, e3, e4, e10, e11, e12, e13, e20, e21, e22, e23, e30, e32, e40, e41, e42, e51, e110, e111) refl
