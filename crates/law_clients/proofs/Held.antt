-- What ties the places that a client's orders hold to its session.
use Rattle.std.proofs.Common.{◌≡◌, ℕ, ◌-◌, ◌*◌, ◌<◌, List, ◌∷◌, length}
use Rattle.std.proofs.Common.{Option, Some, None, refl, sym, ap, subst, ◌∙◌, arith}
use Rattle.std.proofs.lemmas.Bool.{true≢false}
use Rattle.gw_model.specs.Clocks.{Clocks}
use Rattle.gw_map.specs.Settings.{Setup, station_clocks}
use Rattle.iec_apci.specs.declared.apdu.Apdu.{Apdu}
use Rattle.iec_apci.specs.declared.apdu.Apdu.TheVariants.{I, S, U}
use Rattle.iec_apci.specs.declared.apdu.Signal.{Signal}
use Rattle.iec_apci.specs.declared.apdu.Signal.TheVariants.{StartAct, StartCon, StopAct, StopCon, TestAct, TestCon}
use Rattle.iec_command.specs.declared.command.Command.{Command}
use Rattle.gw_answers.specs.Answers.{command_by}
use Rattle.gw_station.specs.declared.event.Said.{Said}
use Rattle.gw_station.specs.declared.sending.Sending.{Sending}
use Rattle.gw_station.specs.declared.sending.Sending.TheVariants as sendings
use Rattle.gw_station.specs.Client.{Client, client_with_news}
use Rattle.gw_station.specs.Frames.{close_of, client_taking, client_with_signal, command_in, event_taking, judged_asdu}
use Rattle.gw_station.specs.Pump.{client_with_sent}
use Rattle.gw_station.proofs.Opens.{open_i}
use Rattle.gw_steps.specs.Steps.{client_answered}
use Rattle.gw_steps.specs.Said.{ApduMeaning}
use Rattle.law_history.specs.Life.{Brought, Taking, Turn, Idle, Takes, PutsOut, Ends, session_with, session, turns_in}
use Rattle.law_history.proofs.Lives.{Becomes, Came, Lives, lives_all}
use Rattle.law_clients.specs.Frames.{held, held_after}
use Rattle.law_clients.proofs.Told.{held_told}
use Rattle.law_clients.proofs.News.{NewsTied, news_tied}

abbrev pub HeldTied : Setup → Option (List Turn) → Client → Type 0
HeldTied setup s k = k.held ≡ held setup (turns_in s)

-- ---- one turn more

-- each outcome frees two
came : (setup : Setup) (brought : Brought) (s : Option (List Turn)) (k new : Client) → Came brought k new
    → HeldTied setup s k → HeldTied setup (session_with (Idle brought) s) new
came setup brought s k new is tied = by s tied
  where
    freed : new.held ≡ k.held - 2 * length brought.outcomes
    freed = ap (λ (x : Client). x.held) is.becomes ∙ held_told brought.outcomes (client_with_news brought.news k)

    by : (s : Option (List Turn)) → HeldTied setup s k → HeldTied setup (session_with (Idle brought) s) new
    by None tied = omega (arith, freed, tied)
    by (Some hs) tied = omega (arith, freed, tied)

-- a control function
signal_taken : (setup : Setup) (taking : Taking) (moment : ℕ) (signal : Signal) (s : Option (List Turn)) (k : Client)
    → NewsTied setup s k → HeldTied setup s k
    → HeldTied setup (session_with (Takes (U signal) taking) s) (client_with_signal moment signal k)
signal_taken setup taking moment StartAct None k news tied = rw news.stopped refl
signal_taken setup taking moment StartAct (Some hs) k news tied = rw news.started tied
signal_taken setup taking moment StopAct None k news tied = rw news.stopped tied
signal_taken setup taking moment StopAct (Some hs) k news tied = rw news.started refl
signal_taken setup taking moment TestAct None k news tied = tied
signal_taken setup taking moment TestAct (Some hs) k news tied = tied
signal_taken setup taking moment TestCon None k news tied = tied
signal_taken setup taking moment TestCon (Some hs) k news tied = tied
signal_taken setup taking moment StartCon None k news tied = tied
signal_taken setup taking moment StartCon (Some hs) k news tied = tied
signal_taken setup taking moment StopCon None k news tied = tied
signal_taken setup taking moment StopCon (Some hs) k news tied = tied

-- an order holds two
answered_holds : (said : Command → Said) (command : Option Command) (k : Client)
    → (client_answered said (event_taking command) k).held ≡ held_after said command k.held
answered_holds said None k = refl
answered_holds said (Some command) k = refl

took : (setup : Setup) (a : Apdu) (taking : Taking) (moment : ℕ) (s : Option (List Turn)) (k : Client)
    → close_of setup a k ≡ None → NewsTied setup s k → HeldTied setup s k
    → HeldTied setup (session_with (Takes a taking) s)
    (client_answered taking.said (event_taking (command_in setup a)) (client_taking setup taking.picture moment a k))
took setup (I ns nr asdu) taking moment None k opens news tied =
    absurd (true≢false (sym (open_i ns nr (judged_asdu setup asdu) k opens).started ∙ news.stopped))
took setup (I ns nr asdu) taking moment (Some hs) k opens news tied =
    let command : Option Command = command_by (judged_asdu setup asdu) in
    answered_holds taking.said command (client_taking setup taking.picture moment (I ns nr asdu) k)
    ∙ ap (held_after taking.said command) tied
took setup (S nr) taking moment None k opens news tied = tied
took setup (S nr) taking moment (Some hs) k opens news tied = tied
took setup (U signal) taking moment s k opens news tied = signal_taken setup taking moment signal s k news tied

-- what is put out frees none of them
sent_holds : (clocks : Clocks) (moment : ℕ) (x : Sending) (k : Client) → (client_with_sent clocks moment x k).held ≡ k.held
sent_holds clocks moment (sendings.Confirm signal) k = refl
sent_holds clocks moment sendings.Test k = refl
sent_holds clocks moment sendings.SFormat k = refl
sent_holds clocks moment (sendings.Answer answer) k = refl
sent_holds clocks moment (sendings.News x) k = refl
sent_holds clocks moment (sendings.Part part) k = refl

put_out : (setup : Setup) (said : ApduMeaning) (s : Option (List Turn))
    → held setup (turns_in (session_with (PutsOut said) s)) ≡ held setup (turns_in s)
put_out setup said None = refl
put_out setup said (Some hs) = refl

-- ---- lives

held_more : (setup : Setup) → 0 < setup.station.queue
    → (t : Turn) (ts : List Turn) (k new : Client) → Lives setup ts k → Becomes setup t k new
    → HeldTied setup (session ts) k → HeldTied setup (session (t ∷ ts)) new
held_more setup some (Idle brought) ts k new lives is tied = came setup brought (session ts) k new is tied
held_more setup some Ends ts k new lives is tied = ap (λ (x : Client). x.held) is
held_more setup some (Takes a taking) ts k new lives is tied =
    subst (HeldTied setup (session (Takes a taking ∷ ts))) (sym is.becomes)
    (took setup a taking is.moment (session ts) k is.opens (news_tied setup some ts k lives) tied)
held_more setup some (PutsOut said) ts k new lives is tied =
    ap (λ (x : Client). x.held) is.becomes
    ∙ (sent_holds (station_clocks setup.station) is.moment is.sending k ∙ (tied ∙ sym (put_out setup said (session ts))))

pub held_tied : (setup : Setup) → 0 < setup.station.queue
    → (ts : List Turn) (k : Client) → Lives setup ts k → HeldTied setup (session ts) k
held_tied setup some = lives_all setup (λ ts k. HeldTied setup (session ts) k) (λ k is. is.held)
    (held_more setup some)
