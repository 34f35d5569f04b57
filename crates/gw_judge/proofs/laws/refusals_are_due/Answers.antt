use Rattle.gw_judge.proofs.Refusals.{unknown_type, unknown_cause, unknown_station, unknown_object}
use Rattle.gw_judge.proofs.laws.refusals_are_due.Goals as goal

pub returns-clause-unknown_type : goal.returns-clause-unknown_type
returns-clause-unknown_type c = unknown_type

pub returns-clause-unknown_cause : goal.returns-clause-unknown_cause
returns-clause-unknown_cause c = unknown_cause

pub returns-clause-unknown_station : goal.returns-clause-unknown_station
returns-clause-unknown_station c = unknown_station

pub returns-clause-unknown_object : goal.returns-clause-unknown_object
returns-clause-unknown_object c = unknown_object
