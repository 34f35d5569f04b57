-- Runs of APDUs, one after the other.
use Rattle.std.proofs.Common.{◌≡◌, ℕ, ◌+◌, List, [], ◌∷◌, ◌++◌, length, take, Option}
use Rattle.std.proofs.Common.{Some, None, Ok, refl, sym, ap, subst, ◌∙◌, append_assoc}
use Rattle.std.specs.Io.KnownBytes.{Appends}
use Rattle.std.proofs.lemmas.List.{append-nil}
use Rattle.std.proofs.Math.Seq.{take-append-add}
use Rattle.iec_apci.specs.declared.buffer.ApduBuf.{ApduBuf}
use Rattle.gw_steps.specs.declared.step.Reply.TheVariants.{Apdu}
use Rattle.run_ends.specs.PutOut.{Gave, Given, GivesAll, Handed, IsPut, joined, octets_in}
use Rattle.iec_apci.proofs.Joined.{joined-append}
use Rattle.run_ends.specs.declared.putting.Put.{Put}
use Rattle.run_ends.specs.declared.putting.Put.TheVariants.{Ended, Unwritten, More}

gives-append : {S : Type 0} (gives : S → Given → S → Type 0) (old mid new : S) (a b : List ApduBuf)
    → GivesAll gives old a mid → GivesAll gives mid b new → GivesAll gives old (a ++ b) new
gives-append gives old mid new [] b first more = subst (λ s. GivesAll gives s b new) (sym first) more
gives-append gives old mid new (x ∷ a) b first more =
    (first.0, (first.1.0, gives-append gives first.0 mid new a b first.1.1 more))

pub appends-more : (x y z : Option (List ℕ)) (a b : List ℕ) → Appends x y a → Appends y z b → Appends x z (a ++ b)
appends-more None y z a b first more = tt
appends-more (Some xs) None z a b first more = absurd first
appends-more (Some xs) (Some ys) None a b first more = absurd more
appends-more (Some xs) (Some ys) (Some zs) a b first more =
    more ∙ (ap (λ (known : List ℕ). known ++ b) first ∙ append_assoc xs a b)

-- one run, and then another
pub handed-then : {S : Type 0} (gives : S → Given → S → Type 0) (old mid new : S) (x y z : Option (List ℕ))
    → Handed gives old mid x y → Handed gives mid new y z → Handed gives old new x z
handed-then gives old mid new x y z first more = record {
  apdus = first.apdus ++ more.apdus;
  given = gives-append gives old mid new first.apdus more.apdus first.given more.given;
  taken =
      subst (Appends x z) (sym (joined-append first.apdus more.apdus))
      (appends-more x y z (joined first.apdus) (joined more.apdus) first.taken more.taken);
}

-- one APDU was
pub gave-one : {S : Type 0} (gives : S → Given → S → Type 0) (old new : S) (x y : List ℕ) (apdu : ApduBuf)
    → gives old (Some (Ok (Apdu apdu))) new → y ≡ x ++ octets_in apdu → Gave gives old new x y
gave-one gives old new x y apdu given octets = record {
  apdus = apdu ∷ [];
  given = (new, (given, refl));
  octets = octets ∙ ap (λ (known : List ℕ). x ++ known) (sym (append-nil (octets_in apdu)));
}

-- one run, and then what ends it
pub put-then : {S : Type 0} (gives : S → Given → S → Type 0) (old mid new : S) (x y z : Option (List ℕ)) (put : Put)
    → Handed gives old mid x y → IsPut gives mid new y z put → IsPut gives old new x z put
put-then gives old mid new x y z (Ended last) first more =
    (more.0, (handed-then gives old mid more.0 x y z first more.1.0, more.1.1, more.1.2))
put-then gives old mid new x y z Unwritten first more = record {
  apdus = first.apdus ++ more.apdus;
  mid = more.mid;
  given = gives-append gives old mid more.mid first.apdus more.apdus first.given more.given;
  ended = more.ended;
  count = length (joined first.apdus) + more.count;
  taken =
      subst (Appends x z)
      (sym (ap (take (length (joined first.apdus) + more.count)) (joined-append first.apdus more.apdus)
      ∙ take-append-add (joined first.apdus) (joined more.apdus) more.count))
      (appends-more x y z (joined first.apdus) (take more.count (joined more.apdus)) first.taken more.taken);
}
put-then gives old mid new x y z More first more = handed-then gives old mid new x y z first more
