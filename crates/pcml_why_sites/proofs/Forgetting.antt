-- How a process stands, with what is kept of it left out, is what it does.
use Rattle.std.proofs.Common.{◌≡◌, ℕ, List, length, refl, ap, ap₂, sym, ◌∙◌, subst}
use Rattle.script_tree.specs.Trees.{Event, Sends, Receives, IsReady, IsNever, IsCancelled, IsJoined, Chooses, Wraps, Guards, Nacks, Events, NoMembers, Members, Stmt, Lets, Prints, Syncs, Branches, Loops, LoopsForever, Ends, Spawns, Block, Stops, Runs}
use Rattle.script_tree.specs.Lined as written
use Rattle.script_tree.specs.Lined.{plain_block, plain_event, plain_members, plain_stmt}
use Rattle.thread.specs.After as after
use Rattle.thread.specs.After.{Chosen, State}
use Rattle.thread.specs.Standing as lined
use Rattle.thread.specs.Standing.{unlined}
use Rattle.thread.proofs.Forgetting as past
use Rattle.pcml_why_sites.specs.Forgetting.{DoesSo, ForgettingGivesAfter, TellsWhatItDoes, TroublesAreSo, forgotten}
use Rattle.pcml_why_sites.specs.Standing.{Standing, Goes, Offers, Finishes, Fails, Strays, standing}
use Rattle.pcml_why_sites.specs.Stands.{IsTold}
use Rattle.pcml_why_sites.specs.Troubles.{IsSo, fault_of}
use Rattle.pcml_why_sites.specs.declared.stand.Stand.{Stand}
use Rattle.pcml_why_sites.specs.declared.stand.Stand.TheVariants as stand
use Rattle.pcml_why_sites.specs.declared.trouble.Trouble.{Trouble}
use Rattle.pcml_why_sites.proofs.Lining.{Told, standing_told}

-- A tree with lines, all of which are 0.

abbrev mutual
  written_event : Event → written.Event
  written_event (Sends channel list) = written.Sends channel list
  written_event (Receives channel) = written.Receives channel
  written_event (IsReady list) = written.IsReady list
  written_event IsNever = written.IsNever
  written_event (IsCancelled nack) = written.IsCancelled nack
  written_event (IsJoined process) = written.IsJoined process
  written_event (Chooses members) = written.Chooses (written_members members)
  written_event (Wraps event names list) = written.Wraps (written_event event) names list
  written_event (Guards body event) = written.Guards (written_block body) (written_event event)
  written_event (Nacks name body event) = written.Nacks name (written_block body) (written_event event)

  written_members : Events → written.Events
  written_members NoMembers = written.NoMembers
  written_members (Members event others) = written.Members (written_event event) (written_members others)

  written_stmt : Stmt → written.Stmt
  written_stmt (Lets name value) = written.Lets name value
  written_stmt (Prints value) = written.Prints value
  written_stmt (Syncs names event) = written.Syncs names (written_event event)
  written_stmt (Branches test first second) = written.Branches test (written_block first) (written_block second)
  written_stmt (Loops times names event rest) = written.Loops times 0 names (written_event event) (written_block rest)
  written_stmt (LoopsForever names event rest) = written.LoopsForever 0 names (written_event event) (written_block rest)
  written_stmt Ends = written.Ends
  written_stmt (Spawns process) = written.Spawns process

  written_block : Block → written.Block
  written_block Stops = written.Stops
  written_block (Runs stmt rest) = written.Runs (written_stmt stmt) 0 (written_block rest)

mutual
  event_same : (e : Event) → plain_event (written_event e) ≡ e
  event_same (Sends channel list) = refl
  event_same (Receives channel) = refl
  event_same (IsReady list) = refl
  event_same IsNever = refl
  event_same (IsCancelled nack) = refl
  event_same (IsJoined process) = refl
  event_same (Chooses members) = ap Chooses (members_same members)
  event_same (Wraps event names list) = ap (λ e. Wraps e names list) (event_same event)
  event_same (Guards body event) = ap₂ Guards (block_same body) (event_same event)
  event_same (Nacks name body event) = ap₂ (Nacks name) (block_same body) (event_same event)

  members_same : (es : Events) → plain_members (written_members es) ≡ es
  members_same NoMembers = refl
  members_same (Members event others) = ap₂ Members (event_same event) (members_same others)

  stmt_same : (stmt : Stmt) → plain_stmt (written_stmt stmt) ≡ stmt
  stmt_same (Lets name value) = refl
  stmt_same (Prints value) = refl
  stmt_same (Syncs names event) = ap (Syncs names) (event_same event)
  stmt_same (Branches test first second) = ap₂ (Branches test) (block_same first) (block_same second)
  stmt_same (Loops times names event rest) = ap₂ (Loops times names) (event_same event) (block_same rest)
  stmt_same (LoopsForever names event rest) = ap₂ (LoopsForever names) (event_same event) (block_same rest)
  stmt_same Ends = refl
  stmt_same (Spawns process) = refl

  block_same : (b : Block) → plain_block (written_block b) ≡ b
  block_same Stops = refl
  block_same (Runs stmt rest) = ap₂ Runs (stmt_same stmt) (block_same rest)

-- WHOLE BODIES

-- over the tree with these lines
seen : (body : Block) (variables thread : ℕ) (results : List Chosen) → Told unlined (standing body variables thread results) (lined.after (written_block body) variables thread results)
seen body variables thread results =
    subst (λ b. Told unlined (standing b variables thread results) (lined.after (written_block body) variables thread results)) (block_same body) (standing_told (written_block body) variables thread results)

forget : (x : Standing State) (y : lined.Outcome lined.State) → Told unlined x y → forgotten x ≡ lined.forgotten y
forget (Goes b) (lined.Goes a) h = ap after.Goes h
forget (Offers tree s) (lined.Offers other at) h = λ i. after.Offers (h.0 i) (h.1 i).said
forget (Finishes s) (lined.Finishes at) h = λ i. after.Finishes (h i).said (h i).left
forget (Fails trouble s) (lined.Fails fault at) h = λ i. after.Fails (h.0 i) (h.2 i).said (h.2 i).left
forget Strays lined.Strays h = refl
forget x y h = absurd h

pub forgetting_gives_after : ForgettingGivesAfter
forgetting_gives_after body variables thread results =
    forget (standing body variables thread results) (lined.after (written_block body) variables thread results) (seen body variables thread results)
    ∙ sym (past.forgetting (written_block body) variables thread results)
    ∙ ap (λ b. after.after b variables thread results) (block_same body)

told_so : (trouble : Trouble) (s : State) (y : lined.Outcome lined.State) → Told unlined (Fails trouble s) y → IsSo s.store s.nacks trouble
told_so trouble s (lined.Fails fault at) h = h.1
told_so trouble s y h = absurd h

pub troubles_are_so : TroublesAreSo
troubles_are_so body variables thread results trouble s is =
    let y = lined.after (written_block body) variables thread results in
    told_so trouble s y (subst (λ x. Told unlined x y) is (seen body variables thread results))

does_so : (x : Standing State) (stand : Stand) → IsTold x stand → DoesSo (forgotten x) stand
does_so (Offers tree s) (stand.Offers variables) h = tt
does_so (Finishes s) stand.Finishes h = h
does_so (Finishes s) stand.Strays h = h
does_so (Fails trouble s) (stand.Fails variables told) h = (ap fault_of h.1, h.2)
does_so (Fails trouble s) stand.Strays h = h
does_so Strays stand.Strays h = tt
does_so x stand h = absurd h

pub tells_what_it_does : TellsWhatItDoes
tells_what_it_does p thread results stand h =
    let variables = length p.variables in
    subst (λ y. DoesSo y stand) (forgetting_gives_after p.body variables thread results) (does_so (standing p.body variables thread results) stand h)
