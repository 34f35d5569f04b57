use Rattle.gw_picture.proofs.Counts.{report_one}
use Rattle.gw_picture.proofs.Rows.{no_news_no_change, news_changes_row}
use Rattle.gw_picture.proofs.laws.report_changes_its_row_alone.Goals as goal

pub returns-clause-once : goal.returns-clause-once
returns-clause-once c = report_one

pub returns-clause-none : goal.returns-clause-none
returns-clause-none c = no_news_no_change

pub returns-clause-news : goal.returns-clause-news
returns-clause-news c = news_changes_row
