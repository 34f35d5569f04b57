use Rattle.std.proofs.Common.{rules, refl, ◌≡◌, length, drop, take, ◌-◌, true, Ok, sym, ap, ◌∙◌}
use Rattle.dnp_objects.specs.declared.fault.HeaderFault.TheVariants.{Memory}
use Rattle.dnp_app.specs.Response.{fragment_of, is_response}
use Rattle.dnp_app.proofs.Responses.{response-again, part_is, is_read, stores_header, told_stored, echo_kept, count_kept}
use Rattle.dnp_app.proofs.response.read.Goals as goal

pub returns-in-Err-clause-memory : goal.returns-in-Err-clause-memory
returns-in-Err-clause-memory c = λ _.
    let function : is_response c.args.octets.items ≡ true = search rules in
    let lacks : c.in-Err.fault.why ≡ Memory = search rules in
    stores_header c.args.octets.items _ c.in-Err.fault.place (search rules) function
    (part_is c.args.octets.items c.deref.result.now c.deref.ensures.value)
    (c.in-Err.ensures.memory lacks)

pub returns-in_default-clause-memory : goal.returns-in_default-clause-memory
returns-in_default-clause-memory c = λ _.
    let function : is_response c.args.octets.items ≡ true = search rules in
    stores_header c.args.octets.items _ 0 (search rules) function
    (part_is c.args.octets.items c.deref.result.now c.deref.ensures.value)
    (told_stored c.args.outstation
    (take (length c.deref.result.now - 4) (drop 4 c.deref.result.now)) c.deref-2.result.now
    (c.in-Ok.ensures.exact ∙ ap Ok (sym c.deref-2.ensures.value)) c.in_default.ensures.memory)

pub invariant_of-result : goal.invariant_of-result
invariant_of-result c =
    let octets = c.args.octets.items in
    let part = take (length c.deref.result.now - 4) (drop 4 c.deref.result.now) in
    let at : part ≡ drop 4 octets = part_is octets c.deref.result.now c.deref.ensures.value in
    let function : is_response octets ≡ true = search rules in (
      is_read c.args.outstation octets part c.in-Ok-reports.reports.items
          (search rules) function at c.in-Ok-reports.ensures.found,
      c.requires,
      echo_kept octets part c.in-Ok.headers.items c.deref-3.result.now c.only_echo-echo.result at c.in-Ok.ensures.exact
          c.deref-3.ensures.value c.only_echo-echo.ensures,
      count_kept octets part c.in-Ok.headers.items c.deref-4.result.now c.count_stepped_over-stepped_over.result at
          c.in-Ok.ensures.exact c.deref-4.ensures.value c.count_stepped_over-stepped_over.ensures,
    )

pub returns-clause-found : goal.returns-clause-found
returns-clause-found c =
    let function : is_response c.args.octets.items ≡ true = search rules in (
      is_read c.args.outstation c.args.octets.items _ c.in-Ok-reports.reports.items (search rules) function
          (part_is c.args.octets.items c.deref.result.now c.deref.ensures.value) c.in-Ok-reports.ensures.found,
      refl,
      refl,
    )

pub returns-clause-exact : goal.returns-clause-exact
returns-clause-exact c =
    let function : is_response c.args.octets.items ≡ true = search rules in
    response-again (fragment_of c.args.outstation c.args.octets.items c.in-Ok-reports.reports.items)
    (is_read c.args.outstation c.args.octets.items _ c.in-Ok-reports.reports.items (search rules) function
    (part_is c.args.octets.items c.deref.result.now c.deref.ensures.value) c.in-Ok-reports.ensures.found)
