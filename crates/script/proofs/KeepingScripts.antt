-- What is read keeps the limits: declarations and scripts.
use Rattle.std.proofs.Common.{◌≡◌, ℕ, ◌+◌, ◌<◌, ◌≤◌, Bool, true, false, cond, ◌||◌, eqb, ltb, leb, List, [], ◌∷◌, ◌++◌, length, Some, None, Ok, is_some, refl, sym, ◌∙◌, subst, arith, length-append}
use Rattle.std.proofs.lemmas.Bool.Decides.{nat_tests}
use Rattle.script_token.specs.Tokens.{Token}
use Rattle.script_token.specs.declared.kind.Symbol.TheVariants.{Channel, Process, Semicolon}
use Rattle.script_tree.specs.Limits.{Known}
use Rattle.script_tree.specs.Processes.{Proc, ShareChannels}
use Rattle.script_grammar.specs.Meaning.{place}
use Rattle.script_tree.specs.Trees.{Block}
use Rattle.script_grammar.proofs.Spawning.{block_spawns}
use Rattle.script_reader.specs.Steps.{name_at, next_is, accept_at, expect_at, Here, start}
use Rattle.script_reader.specs.Laws.{names_at}
use Rattle.script_reader.proofs.Found.{blocks_found}
use Rattle.script_reader.proofs.Keeping.{bound_ok, ok_is, no_ok, if_ok, some_ok, repeated_keeps}
use Rattle.script_reader.specs.Blocks.{block_at}
use Rattle.script.specs.Scripts.{Script, IsScript, script_at, proc_from, declare_at, channel_next, channel_step, channels_at, Drawn, process_next, process_step, processes_at}
use Rattle.script_reader.specs.declared.process.Loops.TheVariants.{Allowed}
use Rattle.script_reader.proofs.KeepingBlocks.{blocks_read}
use Rattle.script.proofs.Spelled.{script_found}
use Rattle.script.proofs.Spawning.{script_spawns}

neither : (a b : Bool) → (a || b) ≡ false → a ≡ false
neither false b e = refl
neither true b e = absurd cc

-- one name more, within the limit
record IsDeclared (limit : ℕ) (old new : List (List ℕ)) : Type 0 where
  few : length new ≤ limit
  more : length new ≡ length old + 1

declared : (limit : ℕ) (names : List (List ℕ)) (ts : List Token) (x : List ℕ × List (List ℕ) × List Token) → declare_at limit names ts ≡ Ok x → IsDeclared limit names x.1
unfolding declare_at
declared limit names ts x e =
    some_ok (name_at ts) _ _ x e
    (λ text _ f. if_ok (is_some (place text names)) _ _ x f
    (λ _ g. no_ok _ _ g)
    (λ _ g. if_ok (leb limit (length names) || ltb 32 (length text)) _ _ x g
    (λ _ k. no_ok _ _ k)
    (λ few k.
    let a = bound_ok (accept_at 49 ts) _ x k in
    let below : length names < limit = (let n = neither (leb limit (length names)) (ltb 32 (length text)) few in grind (arith, nat_tests)) in
    let count = length-append names (text ∷ []) in
    subst (λ (y : List ℕ × List (List ℕ) × List Token). IsDeclared limit names y.1) (ok_is _ _ a.then) (record { few = omega (arith, below, count); more = omega (arith, count) }))))
    (λ f. no_ok _ _ f)

channel_keeps : (s t : List (List ℕ) × List Token) → length s.0 ≤ 256 → channel_step s ≡ Some (Ok t) → length t.0 ≤ 256
unfolding channel_next
channel_keeps s t h e = at_word (next_is Channel s.1) e
  where
    at_word : (v : Bool) → cond v (Some (channel_next s)) None ≡ Some (Ok t) → length t.0 ≤ 256
    at_word false f = absurd cc
    at_word true f =
        let g : channel_next s ≡ Ok t = cc in
        let a = bound_ok (accept_at 49 s.1) _ t g in
        let c = bound_ok (declare_at 256 s.0 a.first) _ t a.then in
        let d = declared 256 s.0 a.first c.first c.is in
        let r = bound_ok (expect_at 49 Semicolon c.first.2) _ t c.then in
        subst (λ (y : List (List ℕ) × List Token). length y.0 ≤ 256) (ok_is _ _ r.then) d.few

channels_keep : (ts : List Token) (x : List (List ℕ) × List Token) → channels_at ts ≡ Ok x → length x.0 ≤ 256
unfolding channels_at
channels_keep ts x e = repeated_keeps (λ (s : List (List ℕ) × List Token). length s.0 ≤ 256) channel_step channel_keeps (length ts) ([], ts) x (omega arith) e

-- a block leaves the processes that can be named
pub processes_stay : (h : Here) (ts : List Token) (x : Block × Here × List Token) → block_at 49 Allowed h ts ≡ Ok x → x.1.processes ≡ h.processes
processes_stay h ts x e = (let b = blocks_found 49 Allowed h ts x e in (block_spawns b.body true (names_at h) (x.0, names_at x.1) b.meaning).processes)

-- what is read of the processes, where there are so many channels
record AreDrawn (count : ℕ) (d : Drawn) : Type 0 where
  few : length d.1.processes ≤ 64
  same : length d.0 ≡ length d.1.processes
  channels : length d.1.channels ≡ count
  shared : ShareChannels count d.0

shared_more : (count : ℕ) (ps : List Proc) (p : Proc) → ShareChannels count ps → p.channels ≡ count → ShareChannels count (ps ++ p ∷ [])
shared_more count [] p h g = (g, tt)
shared_more count (x ∷ ps) p h g = (h.0, shared_more count ps p h.1 g)

process_keeps : (count : ℕ) (s t : Drawn) → AreDrawn count s → process_step s ≡ Some (Ok t) → AreDrawn count t
unfolding process_next
process_keeps count s t h e = at_end (eqb (length s.2) 0) e
  where
    at_end : (v : Bool) → cond v None (Some (process_next s)) ≡ Some (Ok t) → AreDrawn count t
    at_end true f = absurd cc
    at_end false f =
        let g : process_next s ≡ Ok t = cc in
        let first = start s.1.channels s.1.processes s.1.spawned in
        let a = bound_ok (expect_at 49 Process s.2) _ t g in
        let n = bound_ok (declare_at 64 s.1.processes a.first) _ t a.then in
        let d = declared 64 s.1.processes a.first n.first n.is in
        let b = bound_ok (block_at 49 Allowed first n.first.2) _ t n.then in
        let b-read = blocks_read 49 Allowed first n.first.2 b.first b.is in
        let k : Known = record { channels = length b.first.1.channels; variables = length b.first.1.variables; processes = length b.first.1.processes } in
        let later = b-read.later k (record { channels = refl; processes = refl; variables = omega arith }) in
        let channels : length b.first.1.channels ≡ count = later.channels ∙ h.channels in
        let p = proc_from n.first.0 b.first.0 b.first.1 in
        subst (AreDrawn count) (ok_is _ _ b.then) (record {
          few = d.few;
          same = omega (arith, d.more, h.same, length-append s.0 (p ∷ []));
          channels = channels;
          shared = shared_more count s.0 p h.shared channels;
        })

-- what a script has that is read, apart from what it spawns
record IsRead (s : Script) : Type 0 where
  channels : length s.channels ≤ 256
  processes : length s.processes ≤ 64
  shared : ShareChannels (length s.channels) s.processes

script_read : (ts rest : List Token) (names : List (List ℕ)) (d : Drawn) → channels_at ts ≡ Ok (names, rest) → processes_at names rest ≡ Ok d → IsRead (record { channels = d.1.channels; processes = d.0 })
unfolding processes_at
script_read ts rest names d c p =
    let few = channels_keep ts (names, rest) c in
    let r = repeated_keeps (AreDrawn (length names)) process_step (process_keeps (length names)) (length rest) ([], start names [] [], rest) d (record { few = omega arith; same = refl; channels = refl; shared = tt }) p in
    record {
      channels = omega (arith, few, r.channels);
      processes = omega (arith, r.few, r.same);
      shared = subst (λ (n : ℕ). ShareChannels n d.0) (sym r.channels) r.shared;
    }

script_is_read : (ts : List Token) (s : Script) → script_at ts ≡ Ok s → IsRead s
unfolding script_at
script_is_read ts s e =
    let c = bound_ok (channels_at ts) _ s e in
    let p = bound_ok (processes_at c.first.0 c.first.1) _ s c.then in
    subst IsRead (ok_is _ _ p.then) (script_read ts c.first.1 c.first.0 p.first c.is p.is)

pub script_keeps : (ts : List Token) (s : Script) → script_at ts ≡ Ok s → IsScript s
script_keeps ts s e =
    let read = script_is_read ts s e in
    let found = script_found ts s e in
    let spawns = script_spawns found.written s found.meaning in
    record { channels = read.channels; processes = read.processes; shared = read.shared; order = spawns.order; placed = spawns.placed; once = spawns.once }
