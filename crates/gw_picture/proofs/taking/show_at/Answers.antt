use Rattle.std.proofs.Common.{sym, ◌∙◌, ap, arith}
use Rattle.gw_translate.specs.Image.{is_news_of}
use Rattle.gw_model.specs.Places.{change}
use Rattle.gw_picture.proofs.Images.{news_true, news_false}
use Rattle.gw_picture.proofs.Lists.{change-past, set-change}
use Rattle.gw_picture.proofs.taking.show_at.Goals as goal

pub returns-then-position-len-clause-shown : goal.returns-then-position-len-clause-shown
returns-then-position-len-clause-shown c =
    sym (change-past c.args.position _ c.args.shown.now.items (omega (arith, c.args.shown.now.ok.0, c.len.ensures)))

pub returns-then-is_news-clause-news : goal.returns-then-is_news-clause-news
returns-then-is_news-clause-news c =
    news_true c.args.report.now c.args.shown.now.items c.args.position c.index.result.now c.args.image
    (omega (arith, c.args.shown.now.ok.0, c.len.ensures))
    (ap (λ b. is_news_of c.args.report.now b c.args.image) (sym c.index.ensures)
    ∙ (sym c.is_news.ensures ∙ c.if-is_news.true))

pub returns-else-is_news-clause-news : goal.returns-else-is_news-clause-news
returns-else-is_news-clause-news c =
    news_false c.args.report.now c.args.shown.now.items c.args.position c.index.result.now c.args.image
    (omega (arith, c.args.shown.now.ok.0, c.len.ensures))
    (ap (λ b. is_news_of c.args.report.now b c.args.image) (sym c.index.ensures)
    ∙ (sym c.is_news.ensures ∙ c.if-is_news.false))

pub returns-then-is_news-clause-shown : goal.returns-then-is_news-clause-shown
returns-then-is_news-clause-shown c = set-change c.args.position c.without_time.result c.args.shown.now.items
    ∙ ap (λ x. change c.args.position (λ _. x) c.args.shown.now.items) c.without_time.ensures

pub returns-else-is_news-clause-shown : goal.returns-else-is_news-clause-shown
returns-else-is_news-clause-shown c = set-change c.args.position c.without_time.result c.args.shown.now.items
    ∙ ap (λ x. change c.args.position (λ _. x) c.args.shown.now.items) c.without_time.ensures
