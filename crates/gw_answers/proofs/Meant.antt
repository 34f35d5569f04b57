-- What is written of an answer means what it was made of.
use Rattle.std.proofs.Common.{◌≡◌, ℕ, zero, suc, ◌+◌, ◌/◌, ◌%◌, ◌^◌, ◌<◌, ◌≤◌}
use Rattle.std.proofs.Common.{Bool, true, false, List, [], ◌∷◌, length, take, Option, Some}
use Rattle.std.proofs.Common.{None, Result, Ok, Err, refl, sym, ap, subst, ◌∙◌, arith}
use Rattle.std.specs.Prelude.{◌*◌, All, option_map, slice_index, slice_set}
use Rattle.std.specs.List.{AllByRecursion}
use Rattle.std.proofs.lemmas.List.{length-set}
use Rattle.std.proofs.lemmas.List.Elements.{All-nil, All-cons}
use Rattle.std.proofs.lemmas.Bool.{eq-eqb, lt-ltb}
use Rattle.gw_model.specs.Bits.{is_set}
use Rattle.gw_model.specs.Optional.{◌>>=◌}
use Rattle.gw_model.specs.Fit.{HasWidth, IsFit}
use Rattle.gw_model.specs.First.{first_of}
use Rattle.gw_model.specs.declared.observation.Observation.{Observation}
use Rattle.gw_model.specs.Clocks.{Clocks}
use Rattle.iec_asdu.specs.Types.{Layout}
use Rattle.iec_asdu.specs.Asdu.{Asdu, asdu_meaning, monitor_types, layout_of, objects_of}
use Rattle.iec_asdu.specs.Spelling.{spelling, list_spelling}
use Rattle.iec_asdu.specs.Packing.{is_in_sequence, taken_of, packed_spelling}
use Rattle.iec_asdu.proofs.Carried.{taken_of_some, packed_short}
use Rattle.iec_asdu.proofs.Meant.{meant, packed_is_meant}
use Rattle.iec_command.specs.declared.command.Command.{Command}
use Rattle.iec_command.specs.declared.command.Action.{Action}
use Rattle.iec_command.specs.declared.command.Action.TheVariants as actions
use Rattle.iec_command.specs.declared.fault.CommandFault.{CommandFault}
use Rattle.iec_command.specs.Commands.{spelling as command_spelling, cause_octet, command_in}
use Rattle.iec_command.specs.Commands.{command_of, faults, mirrored, type_of, unless, IsWhole}
use Rattle.iec_command.proofs.Again.{command_of-spelling}
use Rattle.iec_command.proofs.Octets.{test_same}
use Rattle.gw_judge.proofs.Refused.{cut_short}
use Rattle.gw_judge.proofs.Refusals.{spelled_type}
use Rattle.gw_answers.specs.declared.outgoing.AsduAnswer.{AsduAnswer}
use Rattle.gw_answers.specs.declared.outgoing.AsduAnswer.TheVariants.{Returned, Made}
use Rattle.gw_answers.specs.declared.outgoing.OwnAsdu.{OwnAsdu}
use Rattle.gw_answers.specs.declared.outgoing.OwnAsdu.TheVariants as outgoing
use Rattle.gw_answers.specs.Octets.{octets_in, answer_octets, outgoing_octets, packed_octets}
use Rattle.gw_answers.specs.Meaning.{Meant, Tells, Commands, meant_by, meaning_of, meant_outgoing}
use Rattle.gw_answers.specs.Meaning.{asdu_of, packed_asdu, IsSendable, HasCause, IsSentBack}
use Rattle.gw_answers.specs.Meaning.{ComesBack, IsRefusedWith, Means, CanSendOutgoing, CanSendAnswer}

-- ---- commands

-- a command carries no process information
tells_nothing : (clocks : Clocks) (c : Command) (action : Action)
    → asdu_meaning (monitor_types clocks) (command_spelling (record c { action = action })) ≡ None
unfolding asdu_meaning
tells_nothing clocks c (actions.Single x) = refl
tells_nothing clocks c (actions.Double x) = refl
tells_nothing clocks c (actions.Setpoint x) = refl
tells_nothing clocks c (actions.Interrogation qualifier) = refl
tells_nothing clocks c (actions.CounterInterrogation qualifier) = refl
tells_nothing clocks c actions.Read = refl

commands_mean : (clocks : Clocks) (c : Command) → IsWhole c → meaning_of clocks (command_spelling c) ≡ Commands c
commands_mean clocks c whole =
    let octets : List ℕ = command_spelling c in
    ap (λ (m : Option Asdu). meant_by octets m (command_of octets)) (tells_nothing clocks c c.action)
    ∙ ap (λ (r : Result Command CommandFault). meant_by octets None r) (command_of-spelling c whole)

-- ---- observations

abbrev one : ℕ → ℕ → ℕ → ℕ → List Observation → Asdu
one identification cause originator common xs =
    record {
      identification = identification;
      cause = cause;
      originator = originator;
      common_address = common;
      observations = xs;
    }

-- the originator is told as it stands, and changes nothing else
originator_apart : (types : List Layout) (t v cause o : ℕ) (rest : List ℕ)
    → asdu_meaning types (t ∷ v ∷ cause ∷ o ∷ rest)
    ≡ option_map (λ (a : Asdu). record a { originator = o }) (asdu_meaning types (t ∷ v ∷ cause ∷ 0 ∷ rest))
unfolding asdu_meaning
originator_apart types t v cause o [] = refl
originator_apart types t v cause o (low ∷ []) = refl
originator_apart types t v cause o (low ∷ high ∷ objects) = by_layout (layout_of t types)
  where
    common : ℕ
    common = low + 256 * high

    by_objects : (xs : Option (List Observation)) → (xs >>= λ ys. Some (one t cause o common ys))
        ≡ option_map (λ (a : Asdu). record a { originator = o }) (xs >>= λ ys. Some (one t cause 0 common ys))
    by_objects None = refl
    by_objects (Some xs) = refl

    by_layout : (layout : Option Layout)
        → (layout >>= λ l. (objects_of common l (is_set 7 v) (v % 128) objects >>= λ ys. Some (one t cause o common ys)))
        ≡ option_map (λ (a : Asdu). record a { originator = o })
        (layout >>= λ l. (objects_of common l (is_set 7 v) (v % 128) objects >>= λ ys. Some (one t cause 0 common ys)))
    by_layout None = refl
    by_layout (Some l) = by_objects (objects_of common l (is_set 7 v) (v % 128) objects)

observations_mean : (clocks : Clocks) (cause originator : ℕ) (x : Observation) → HasWidth x.value
    → IsFit clocks x
    → meaning_of clocks (slice_set (spelling clocks cause x) 3 originator)
    ≡ Tells (asdu_of clocks cause originator x)
observations_mean clocks cause originator x width fit =
    let octets : List ℕ = slice_set (spelling clocks cause x) 3 originator in
    ap (λ (m : Option Asdu). meant_by octets m (command_of octets))
    (originator_apart (monitor_types clocks) _ 1 cause originator _ ∙ ap
    (option_map (λ (a : Asdu). record a { originator = originator })) (meant clocks cause x width fit))

-- as many as one ASDU carries
all_fit : (clocks : Clocks) (xs : List Observation) → AllByRecursion (IsSendable clocks) xs
    → All (λ x. HasWidth x.value) xs × All (IsFit clocks) xs
all_fit clocks [] all = (All-nil (λ x. HasWidth x.value), All-nil (IsFit clocks))
all_fit clocks (x ∷ xs) all =
    let more = all_fit clocks xs all.1 in (
      All-cons (λ y. HasWidth y.value) x xs all.0.width more.0,
      All-cons (IsFit clocks) x xs all.0.fit more.1,
    )

-- a list that isn't empty has its header first
originator_changed : (clocks : Clocks) (sequence : Bool) (cause originator : ℕ) (x : Observation)
    (xs : List Observation) → asdu_meaning (monitor_types clocks)
    (slice_set (list_spelling clocks sequence cause (x ∷ xs)) 3 originator)
    ≡ option_map (λ (a : Asdu). record a { originator = originator })
    (asdu_meaning (monitor_types clocks) (list_spelling clocks sequence cause (x ∷ xs)))
unfolding list_spelling
originator_changed clocks sequence cause originator x xs =
    originator_apart (monitor_types clocks) _ _ cause originator _

packed_changed : (clocks : Clocks) (cause originator : ℕ) (x : Observation) (xs : List Observation)
    → asdu_meaning (monitor_types clocks) (packed_octets clocks cause originator (x ∷ xs))
    ≡ option_map (λ (a : Asdu). record a { originator = originator })
    (asdu_meaning (monitor_types clocks) (packed_spelling clocks cause (x ∷ xs)))
unfolding packed_spelling
packed_changed clocks cause originator x xs =
    go (taken_of clocks (x ∷ xs)) (taken_of_some clocks (x ∷ xs) (omega arith))
  where
    sequence : Bool
    sequence = is_in_sequence clocks (x ∷ xs)

    go : (n : ℕ) → 0 < n → asdu_meaning (monitor_types clocks)
        (slice_set (list_spelling clocks sequence cause (take n (x ∷ xs))) 3 originator)
        ≡ option_map (λ (a : Asdu). record a { originator = originator })
        (asdu_meaning (monitor_types clocks) (list_spelling clocks sequence cause (take n (x ∷ xs))))
    go zero some = absurd (omega arith)
    go (suc n) some = originator_changed clocks sequence cause originator x (take n xs)

pub packed_mean : (clocks : Clocks) (cause originator : ℕ) (x : Observation) (xs : List Observation)
    → AllByRecursion (IsSendable clocks) (take (taken_of clocks (x ∷ xs)) (x ∷ xs))
    → meaning_of clocks (packed_octets clocks cause originator (x ∷ xs))
    ≡ Tells (packed_asdu clocks cause originator x xs)
packed_mean clocks cause originator x xs all =
    let octets : List ℕ = packed_octets clocks cause originator (x ∷ xs) in
    let fit = all_fit clocks (take (taken_of clocks (x ∷ xs)) (x ∷ xs)) all in
    ap (λ (m : Option Asdu). meant_by octets m (command_of octets))
    (packed_changed clocks cause originator x xs
    ∙ ap (option_map (λ (a : Asdu). record a { originator = originator }))
    (packed_is_meant clocks cause x xs fit.0 fit.1))

-- no more octets than an ASDU may have
pub packed_octets_short : (clocks : Clocks) (cause originator : ℕ) (xs : List Observation)
    → length (packed_octets clocks cause originator xs) ≤ 249
packed_octets_short clocks cause originator xs =
    omega (
      arith,
      length-set (packed_spelling clocks cause xs) 3 originator,
      packed_short clocks cause xs,
    )

-- ---- what comes back

-- the cause is the third octet
cause_told : (types : List Layout) (t v cause : ℕ) (rest : List ℕ) (a : Asdu)
    → asdu_meaning types (t ∷ v ∷ cause ∷ rest) ≡ Some a → a.cause ≡ cause
unfolding asdu_meaning
cause_told types t v cause [] a e = absurd cc
cause_told types t v cause (o ∷ []) a e = absurd cc
cause_told types t v cause (o ∷ low ∷ []) a e = absurd cc
cause_told types t v cause (o ∷ low ∷ high ∷ objects) a e = by_layout (layout_of t types) e
  where
    common : ℕ
    common = low + 256 * high

    by_objects : (xs : Option (List Observation)) → (xs >>= λ ys. Some (one t cause o common ys)) ≡ Some a
        → a.cause ≡ cause
    by_objects None e = absurd cc
    by_objects (Some xs) e = sym (ap (λ (x : Option Asdu). cause_in x) e)
      where
        cause_in : Option Asdu → ℕ
        cause_in None = cause
        cause_in (Some b) = b.cause

    by_layout : (layout : Option Layout) → (layout >>= λ l. (objects_of common l (is_set 7 v) (v % 128) objects
        >>= λ ys. Some (one t cause o common ys))) ≡ Some a → a.cause ≡ cause
    by_layout None e = absurd cc
    by_layout (Some l) e = by_objects (objects_of common l (is_set 7 v) (v % 128) objects) e

-- so it is in a command
command_told : (octets : List ℕ) (c : Command) → command_of octets ≡ Ok c → c ≡ command_in octets
unfolding command_of
command_told octets c e = go (first_of (faults octets)) e
  where
    read : Result Command CommandFault → Command
    read (Ok d) = d
    read (Err fault) = c

    go : (fault : Option CommandFault) → unless fault (command_in octets) ≡ Ok c → c ≡ command_in octets
    go None e = sym (ap read e)
    go (Some fault) e = absurd cc

-- the octet of a cause with P/N
cause_has : (cause : ℕ) (test : Bool) → cause < 64 → HasCause cause (cause_octet cause true test)
cause_has cause true few = (omega (arith, few), eq-eqb (cause_octet cause true true / 2 ^ 6 % 2) 1 (omega (arith, few)))
cause_has cause false few =
    (omega (arith, few), eq-eqb (cause_octet cause true false / 2 ^ 6 % 2) 1 (omega (arith, few)))

-- what octets with such a cause mean has it
refused_octets : (clocks : Clocks) (cause t v new : ℕ) (rest : List ℕ) → HasCause cause new
    → IsRefusedWith cause (meaning_of clocks (t ∷ v ∷ new ∷ rest))
refused_octets clocks cause t v new rest has = by_asdu (asdu_meaning (monitor_types clocks) back) refl
  where
    back : List ℕ
    back = t ∷ v ∷ new ∷ rest

    by_command : (r : Result Command CommandFault) → command_of back ≡ r → IsRefusedWith cause (meant_by back None r)
    by_command (Ok c) e = let is : c ≡ command_in back = command_told back c e in
        (ap (λ (d : Command). d.cause) is ∙ has.0, ap (λ (d : Command). d.negative) is ∙ has.1)
    by_command (Err fault) e = has

    by_asdu : (m : Option Asdu) → asdu_meaning (monitor_types clocks) back ≡ m
        → IsRefusedWith cause (meant_by back m (command_of back))
    by_asdu (Some a) e = subst (HasCause cause) (sym (cause_told (monitor_types clocks) t v new rest a e)) has
    by_asdu None e = by_command (command_of back) refl

pub refused_with : (clocks : Clocks) (cause : ℕ) (came : List ℕ) (meant : Meant) → 6 ≤ length came
    → ComesBack clocks cause came meant → IsRefusedWith cause meant
refused_with clocks cause [] meant long h = absurd (omega (arith, long))
refused_with clocks cause (t ∷ []) meant long h = absurd (omega (arith, long))
refused_with clocks cause (t ∷ v ∷ []) meant long h = absurd (omega (arith, long))
refused_with clocks cause (t ∷ v ∷ old ∷ rest) meant long h =
    subst (IsRefusedWith cause) (sym (h.means ∙ ap (meaning_of clocks) h.sent.same))
    (refused_octets clocks cause t v h.sent.octet rest (h.sent.has_cause, h.sent.negative))

comes_back : (clocks : Clocks) (cause : ℕ) (came : List ℕ) → cause < 64
    → ComesBack clocks cause came (meaning_of clocks (mirrored cause true came))
comes_back clocks cause came few =
    let test : Bool = is_set 7 (slice_index came 2) in
    let has = cause_has cause test few in
    record {
      back = mirrored cause true came;
      sent = record {
        octet = cause_octet cause true test;
        same = refl;
        has_cause = has.0;
        negative = has.1;
        test = test_same cause true test;
      };
      means = refl;
    }

-- ---- a command comes back as it came

-- its type is that of no process information
no_layout : (clocks : Clocks) (t : ℕ) (action : Action) → t ≡ type_of action → layout_of t (monitor_types clocks) ≡ None
no_layout clocks t (actions.Single x) e = ap (λ (n : ℕ). layout_of n (monitor_types clocks)) e
no_layout clocks t (actions.Double x) e = ap (λ (n : ℕ). layout_of n (monitor_types clocks)) e
no_layout clocks t (actions.Setpoint x) e = ap (λ (n : ℕ). layout_of n (monitor_types clocks)) e
no_layout clocks t (actions.Interrogation qualifier) e = ap (λ (n : ℕ). layout_of n (monitor_types clocks)) e
no_layout clocks t (actions.CounterInterrogation qualifier) e = ap (λ (n : ℕ). layout_of n (monitor_types clocks)) e
no_layout clocks t actions.Read e = ap (λ (n : ℕ). layout_of n (monitor_types clocks)) e

no_information : (types : List Layout) (t v cause : ℕ) (rest : List ℕ) → layout_of t types ≡ None
    → asdu_meaning types (t ∷ v ∷ cause ∷ rest) ≡ None
unfolding asdu_meaning
no_information types t v cause [] e = refl
no_information types t v cause (o ∷ []) e = refl
no_information types t v cause (o ∷ low ∷ []) e = refl
no_information types t v cause (o ∷ low ∷ high ∷ objects) e = rw e

-- the third octet tells cause, P/N and T alone
third_octet : (t v old new : ℕ) (rest : List ℕ) (c : Command) → command_of (t ∷ v ∷ old ∷ rest) ≡ Ok c
    → command_of (t ∷ v ∷ new ∷ rest)
    ≡ Ok (record c { cause = new % 64; negative = is_set 6 new; test = is_set 7 new })
unfolding command_of
third_octet t v old new rest c e = go (first_of (faults (t ∷ v ∷ old ∷ rest))) e
  where
    changed : Command → Command
    changed d = record d { cause = new % 64; negative = is_set 6 new; test = is_set 7 new }

    read : Result Command CommandFault → Command
    read (Ok d) = d
    read (Err fault) = c

    go : (fault : Option CommandFault) → unless fault (command_in (t ∷ v ∷ old ∷ rest)) ≡ Ok c
        → unless fault (command_in (t ∷ v ∷ new ∷ rest)) ≡ Ok (changed c)
    go None e = ap (λ (d : Command). Ok (changed d)) (ap read e)
    go (Some fault) e = absurd cc

long_enough : (octets : List ℕ) (c : Command) → length octets < 6 → command_of octets ≡ Ok c → ⊥
long_enough octets c short e = err_not (sym e ∙ cut_short octets (lt-ltb (length octets) 6 short))
  where
    err_not : {fault : CommandFault} → Ok c ≡ Err fault → ⊥
    err_not e = cc

pub command_back : (clocks : Clocks) (cause : ℕ) (came back : List ℕ) (c : Command) → command_of came ≡ Ok c
    → IsSentBack cause came back → meaning_of clocks back ≡ Commands (record c { cause = cause; negative = true })
command_back clocks cause [] back c e sent = absurd (long_enough [] c (omega arith) e)
command_back clocks cause (t ∷ []) back c e sent = absurd (long_enough (t ∷ []) c (omega arith) e)
command_back clocks cause (t ∷ v ∷ []) back c e sent = absurd (long_enough (t ∷ v ∷ []) c (omega arith) e)
command_back clocks cause (t ∷ v ∷ old ∷ rest) back c e sent =
    let octets : List ℕ = t ∷ v ∷ sent.octet ∷ rest in
    let known = spelled_type (t ∷ v ∷ old ∷ rest) c e in
    let same : record c { cause = sent.octet % 64; negative = is_set 6 sent.octet; test = is_set 7 sent.octet }
    ≡ record c { cause = cause; negative = true } =
    λ i. record c { cause = sent.has_cause i; negative = sent.negative i; test = (sent.test ∙ test_told old e) i } in
    ap (meaning_of clocks) sent.same
    ∙ (ap (λ (m : Option Asdu). meant_by octets m (command_of octets))
    (no_information (monitor_types clocks) t v sent.octet rest (no_layout clocks t known.0 known.1))
    ∙ (ap (λ (r : Result Command CommandFault). meant_by octets None r) (third_octet t v old sent.octet rest c e)
    ∙ ap (λ (d : Command). Commands d) same))
  where
    test_told : (old : ℕ) → command_of (t ∷ v ∷ old ∷ rest) ≡ Ok c → is_set 7 old ≡ c.test
    test_told old e = sym (ap (λ (d : Command). d.test) (command_told (t ∷ v ∷ old ∷ rest) c e))

-- ---- what goes out

pub outgoing_means : (clocks : Clocks) (x : OwnAsdu) → CanSendOutgoing clocks x
    → meaning_of clocks (outgoing_octets clocks x) ≡ meant_outgoing clocks x
outgoing_means clocks (outgoing.Command c) can =
    commands_mean clocks c can.1
outgoing_means clocks (outgoing.Observation cause originator x) can =
    observations_mean clocks cause originator x can.width can.fit

pub answer_means : (clocks : Clocks) (answer : AsduAnswer) → CanSendAnswer clocks answer
    → Means clocks answer (meaning_of clocks (answer_octets clocks answer))
answer_means clocks (Returned asdu cause) can =
    comes_back clocks cause (octets_in asdu) (omega (arith, can.2))
answer_means clocks (Made (outgoing.Command c)) can =
    outgoing_means clocks (outgoing.Command c) can
answer_means clocks (Made (outgoing.Observation cause originator x)) can =
    outgoing_means clocks (outgoing.Observation cause originator x) can.1
