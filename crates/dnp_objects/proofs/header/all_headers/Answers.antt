use Rattle.std.proofs.Common.{◌≡◌, ◌+◌, ◌-◌, ◌<◌, ◌++◌, ◌∷◌, [], suc, length, arith, vec_len, rules}
use Rattle.dnp_objects.specs.Headers.{headers_of}
use Rattle.dnp_objects.proofs.HeaderLoop.{goes_on, fails, too_many, is_done}
use Rattle.dnp_objects.proofs.Before.{none_before, more_before, stored}
use Rattle.dnp_objects.proofs.header.all_headers.Goals as goal

pub returns-then-len-eq-MOST_HEADERS-clause-exact : goal.returns-then-len-eq-MOST_HEADERS-clause-exact
returns-then-len-eq-MOST_HEADERS-clause-exact c =
    let none : 512 - vec_len c.loop-rest.found ≡ 0 = omega arith in
    let here : 0 < length c.loop-rest.rest.now = search rules in
    rw (c.at.ensures) (too_many (length c.args.part.now) c.loop-rest.rest.now c.loop-rest.found.items
    (headers_of c.args.part.now) here (rw none at c.loop-rest.invariant.read))

pub returns-in-Err-clause-exact : goal.returns-in-Err-clause-exact
returns-in-Err-clause-exact c =
    let more : 512 - vec_len c.loop-rest.found ≡ suc (511 - vec_len c.loop-rest.found) = omega arith in
    let here : 0 < length c.loop-rest.rest.now = search rules in
    fails (length c.args.part.now) _ _ c.loop-rest.rest.now c.loop-rest.found.items c.in-Err.fault
    (headers_of c.args.part.now) more here c.in-Err.ensures.read c.loop-rest.invariant.read

pub loop-rest-preserved : goal.loop-rest-preserved
loop-rest-preserved c =
    let more : 512 - vec_len c.loop-rest.found ≡ suc (512 - (vec_len c.loop-rest.found + 1)) = omega arith in
    let here : 0 < length c.loop-rest.rest.now = search rules in
    let next = goes_on (length c.args.part.now) _ _ c.loop-rest.rest.now c.loop-rest.found.items c.in-Ok.read.0
    c.in-Ok.read.1.now (headers_of c.args.part.now) more here c.in-Ok.ensures.read c.loop-rest.invariant.read in
    let before = more_before c.args.part.now c.loop-rest.rest.now c.loop-rest.found.items c.in-Ok.read.0
    c.in-Ok.read.1.now c.loop-rest.invariant.before c.in-Ok.ensures.read in
    let items : c.push.new.self.items ≡ c.loop-rest.found.items ++ c.in-Ok.read.0 ∷ [] = search rules in
    let len : vec_len c.push.new.self ≡ vec_len c.loop-rest.found + 1 = search rules in
    record {
      read = rw (items, len) next;
      room = omega arith;
      inside = omega (arith, c.in-Ok.ensures.goes);
      before = rw (items) before;
    }

pub returns-clause-exact : goal.returns-clause-exact
returns-clause-exact c =
    let none : length c.loop-rest.rest.now ≡ 0 = search rules in
    is_done (length c.args.part.now) _ c.loop-rest.rest.now c.loop-rest.found.items
    (headers_of c.args.part.now) none c.loop-rest.invariant.read

pub returns-then-is_err-clause-memory : goal.returns-then-is_err-clause-memory
returns-then-is_err-clause-memory c =
    λ _. rw (c.at-then-is_err.ensures) (stored c.args.part.now c.loop-rest.rest.now c.loop-rest.found.items
    c.in-Ok.read.0 c.in-Ok.read.1.now c.loop-rest.invariant.before (omega arith) c.in-Ok.ensures.read)

pub loop-rest-init : goal.loop-rest-init
loop-rest-init c = record {
  read = search rules;
  room = omega arith;
  inside = omega arith;
  before = rw (c.new-found.ensures.items) (none_before c.args.part.now);
}
