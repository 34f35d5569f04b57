use Rattle.std.proofs.Common.{ℕ, Some, sym, ap, ◌∙◌, arith}
use Rattle.gw_answers.specs.declared.outgoing.OwnAsdu.{OwnAsdu}
use Rattle.gw_answers.specs.declared.outgoing.OwnAsdu.TheVariants as outgoing
use Rattle.gw_station.proofs.Rests.{row_of_answer, last_of_answer}
use Rattle.gw_station.proofs.rest.part_at.Goals as goal

pub returns-in-Some : goal.returns-in-Some
returns-in-Some c =
    ap (λ (n : ℕ). Some (outgoing.Observation n 0 c.in-Some.observation)) c.cause_for.ensures
    ∙ row_of_answer c.args.command.now c.args.rows.now c.args.place c.in-Some.observation (omega arith)
    (sym c.row_at.ensures ∙ c.in-Some.is)

pub returns-in-None : goal.returns-in-None
returns-in-None c =
    ap (λ (part : OwnAsdu). Some part) c.command_with-in-None.ensures
    ∙ last_of_answer c.args.command.now c.args.rows.now c.args.place (omega arith) c.requires
    (sym c.row_at.ensures ∙ c.in-None.is)
