-- What a core under test is made of.
use Rattle.std.specs.Prelude.{◌≡◌, ℕ}
use Rattle.logbook.specs.Pages.{Book}
use Rattle.gw_map.specs.Settings.{Setup}
use Rattle.run_shared.specs.Reached.{IsFirst}
use Rattle.run_shared.specs.Roles.{Roles, anybody}
use Rattle.test_tools.specs.declared.opening.Opening.{Opening}

-- the ledger has this name, and parts for so many actors; the history is this book's; no step was made on the hub, which
-- has these settings; and anybody may make any call
pub record IsFor (name parts : ℕ) (book : Book) (setup : Setup) (roles : Roles) (actors : ℕ) (opening : Opening)
    : Type 0 where
  pub name_is : opening.blank.name ≡ name
  pub parts_are : opening.blank.parts ≡ parts
  pub actors_are : opening.blank.parts ≡ actors
  pub book_is : opening.history.seen.book ≡ book
  pub first : IsFirst setup opening.hub
  pub roles_are : roles ≡ anybody
