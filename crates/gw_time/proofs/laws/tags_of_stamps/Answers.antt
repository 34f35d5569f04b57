use Rattle.gw_time.proofs.Spelled.{window_of_tag, tag_means, tag_has_seven, tag_is_plain, tag_is_by_the_clocks}
use Rattle.gw_time.proofs.laws.tags_of_stamps.Goals as goal

pub returns-clause-window : goal.returns-clause-window
returns-clause-window c = window_of_tag

pub returns-clause-meant : goal.returns-clause-meant
returns-clause-meant c = tag_means

pub returns-clause-seven : goal.returns-clause-seven
returns-clause-seven c = tag_has_seven

pub returns-clause-plain : goal.returns-clause-plain
returns-clause-plain c = tag_is_plain

pub returns-clause-by_the_clocks : goal.returns-clause-by_the_clocks
returns-clause-by_the_clocks c = tag_is_by_the_clocks
