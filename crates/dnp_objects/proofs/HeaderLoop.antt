-- Reading headers one after the other, as a loop does.
use Rattle.std.proofs.Common.{◌≡◌, ℕ, suc, ◌-◌, ◌<◌, List, [], ◌∷◌, ◌++◌, length}
use Rattle.std.proofs.Common.{Result, Ok, Err, refl, sym, ap, ◌∙◌, append_assoc, arith}
use Rattle.std.proofs.lemmas.List.{append-nil}
use Rattle.gw_model.specs.Outcome.{◌>>=◌, UnlessMemory}
use Rattle.dnp_objects.specs.declared.fault.ObjectFault.{ObjectFault}
use Rattle.dnp_objects.specs.declared.fault.HeaderFault.TheVariants.{TooMany}
use Rattle.dnp_objects.specs.declared.header.Header.{Header}
use Rattle.dnp_objects.specs.Headers.{header_at, headers_from, is_memory}
use Rattle.dnp_objects.proofs.Results.{UnlessMemory-map}

-- what was read before, and what is still read
abbrev pub with_front : List Header → Result (List Header) ObjectFault → Result (List Header) ObjectFault
with_front front read = read >>= λ hs. Ok (front ++ hs)

regroup : (front : List Header) (h : Header) (read : Result (List Header) ObjectFault)
    → with_front front (read >>= λ hs. Ok (h ∷ hs)) ≡ with_front (front ++ h ∷ []) read
regroup front h (Ok hs) = ap (λ (xs : List Header). Ok xs) (simp append_assoc)
regroup front h (Err e) = refl

-- one more header
pub step : (total more m : ℕ) (bytes : List ℕ) (read : Result (Header × List ℕ) ObjectFault) → more ≡ suc m
    → 0 < length bytes
    → header_at (total - length bytes) bytes ≡ read
    → headers_from total more bytes ≡ (read >>= λ x. headers_from total m x.1 >>= λ hs. Ok (x.0 ∷ hs))
unfolding headers_from
step total more m [] read e lt at = absurd (omega arith)
step total more m (b ∷ bs) read e lt at = rw (e, at) refl

pub goes_on : (total more m : ℕ) (bytes : List ℕ) (front : List Header) (h : Header) (after : List ℕ)
    (whole : Result (List Header) ObjectFault)
    → more ≡ suc m → 0 < length bytes → header_at (total - length bytes) bytes ≡ Ok (h, after)
    → with_front front (headers_from total more bytes) ≡ whole
    → with_front (front ++ h ∷ []) (headers_from total m after) ≡ whole
goes_on total more m bytes front h after whole e lt at so_far =
    sym (regroup front h (headers_from total m after))
    ∙ (ap (with_front front) (sym (step total more m bytes (Ok (h, after)) e lt at)) ∙ so_far)

pub fails : (total more m : ℕ) (bytes : List ℕ) (front : List Header) (e : ObjectFault)
    (whole : Result (List Header) ObjectFault)
    → more ≡ suc m → 0 < length bytes → UnlessMemory (is_memory e) (header_at (total - length bytes) bytes ≡ Err e)
    → with_front front (headers_from total more bytes) ≡ whole → UnlessMemory (is_memory e) (whole ≡ Err e)
fails total more m bytes front e whole is lt at so_far =
    UnlessMemory-map (is_memory e) (λ (h : header_at (total - length bytes) bytes ≡ Err e). sym so_far
    ∙ ap (with_front front) (step total more m bytes (Err e) is lt h)) at

pub too_many : (total : ℕ) (bytes : List ℕ) (front : List Header) (whole : Result (List Header) ObjectFault)
    → 0 < length bytes → with_front front (headers_from total 0 bytes) ≡ whole
    → whole ≡ Err (record { why = TooMany; place = total - length bytes })
unfolding headers_from
too_many total [] front whole lt so_far = absurd (omega arith)
too_many total (b ∷ bs) front whole lt so_far = sym so_far

pub is_done : (total more : ℕ) (bytes : List ℕ) (front : List Header) (whole : Result (List Header) ObjectFault)
    → length bytes ≡ 0 → with_front front (headers_from total more bytes) ≡ whole → whole ≡ Ok front
unfolding headers_from
is_done total more [] front whole none so_far = sym so_far ∙ ap (λ (xs : List Header). Ok xs) (append-nil front)
is_done total more (b ∷ bs) front whole none so_far = absurd (omega arith)
