use Rattle.gw_answers.proofs.Wanted.{none_wanted, one_wanted, two_wanted}
use Rattle.gw_answers.proofs.laws.places_are_wanted.Goals as goal

pub returns-clause-none : goal.returns-clause-none
returns-clause-none c = none_wanted

pub returns-clause-two : goal.returns-clause-two
returns-clause-two c = two_wanted

pub returns-clause-one : goal.returns-clause-one
returns-clause-one c = one_wanted
