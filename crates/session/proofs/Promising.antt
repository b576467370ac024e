-- What follows from the rule of a call: the promise for every list of calls that led to it.
use Rattle.std.proofs.Common.{ℕ, List, [], ◌∷◌, All}
use Rattle.std.proofs.lemmas.List.Elements.{All-nil, All-cons, All-head, All-tail}
use Rattle.std.proofs.lemmas.Bool.{cond_both}
use Rattle.rules.specs.Sources.{Lawful}
use Rattle.theory.specs.Search.{ended}
use Rattle.theory.specs.Calls.{Call, Reply, State, Next}
use Rattle.theory.specs.Events.{Event, Grant, View, View.joined, View.cleared, View.began, View.ran, View.other, view, of_run, runs_after, granted_runs, latest_verdict, looking, EachRun}
use Rattle.theory.specs.Promise.{History.more, LawfulRuns}
use Rattle.theory.proofs.Theorem.{promise_kept}
use Rattle.session.specs.Sessions.{Lived, Promised}

-- where each run was given a lawful source, so was each of those since the latest begin that looked
abbrev AllLawful : List Grant → Type 0
AllLawful gs = All (λ g. Lawful g.guide.source) gs

runs_lawful : (v : View) (gs : List Grant) → of_run v (λ g. Lawful g.guide.source) → AllLawful gs → AllLawful (runs_after v gs)
runs_lawful (joined l) gs p h = h
runs_lawful cleared gs p h = h
runs_lawful began gs p h = All-nil (λ g. Lawful g.guide.source)
runs_lawful (ran g) gs p h = All-cons (λ r. Lawful r.guide.source) g gs p h
runs_lawful other gs p h = h

granted_lawful : (h : List Event) → EachRun (λ g before. Lawful g.guide.source) h → AllLawful (granted_runs h)
granted_lawful [] p = All-nil (λ g. Lawful g.guide.source)
granted_lawful (e ∷ h) p = runs_lawful (view e) (granted_runs h) p.0 (granted_lawful h p.1)

looking_lawful : (gs : List Grant) → AllLawful gs → AllLawful (looking gs)
looking_lawful [] h = All-nil (λ g. Lawful g.guide.source)
looking_lawful (g ∷ gs) h =
    let lawful : Grant → Type 0 = λ r. Lawful r.guide.source in
    let rest = looking_lawful gs (All-tail lawful g gs h) in
    cond_both (ended (latest_verdict gs)) (looking gs) (g ∷ looking gs) AllLawful (λ _. rest) (λ _. All-cons lawful g (looking gs) (All-head lawful g gs h) rest)

pub lawful_runs : (h : List Event) → EachRun (λ g before. Lawful g.guide.source) h → LawfulRuns (granted_runs h)
lawful_runs h p = looking_lawful (granted_runs h) (granted_lawful h p)

pub promised : (n L : ℕ) (s : State) (call : Call) (reply : Reply) (s' : State) → of_run (view (record { call = call; reply = reply })) (λ g. Lawful g.guide.source) → Next n L s call reply s' → Promised n L s call reply s'
promised n L s call reply s' law next =
    let onward : (h : List Event) → Lived n L h s → Lived n L (record { call = call; reply = reply } ∷ h) s' = λ h l. record { history = more l.history next; lawful = (law, l.lawful) } in
    record {
      next = next;
      lives = onward;
      promise = λ h l. promise_kept n L (record { call = call; reply = reply } ∷ h) s' (onward h l).history;
      steps = λ h l. (promise_kept n L (record { call = call; reply = reply } ∷ h) s' (onward h l).history).steps (lawful_runs (record { call = call; reply = reply } ∷ h) (onward h l).lawful);
    }
