use Rattle.std.proofs.Common.{◌≡◌, refl, List, ap, subst, sym, ◌∙◌, ℕ, ◌++◌, length}
use Rattle.std.specs.Global.{Vec}
use Rattle.journal_replay.proofs.Nacks.{tells-ended, tells-fired}
use Rattle.script.specs.Scripts.{script_of}
use Rattle.script_token.specs.Lexemes.{placed_tokens, seen}
use Rattle.script_token.specs.Tokens.{Token}
use Rattle.script_token.specs.declared.lexeme.Placed.{Placed}
use Rattle.pcml_why_sites.specs.Sites.{AreSites}
use Rattle.pcml_why_sites.specs.Writing.{seen_offers, seen_texts, texts_below}
use Rattle.pcml_why_sites.specs.declared.writing.WrittenOffer.{WrittenOffer}
use Rattle.pcml_why.specs.Whys.{last_text, facts_of, why_text}
use Rattle.pcml_why_sites.specs.declared.site.Site.{Site}
use Rattle.journal_text.specs.Names.{named}
use Rattle.std.proofs.lemmas.List.{length-map}
use Rattle.pcml_why_sites.proofs.Places.{length-texts}
use Rattle.pcml_why.proofs.text.why_text.Goals as goal

pub returns : goal.returns
returns c =
    let names = named (script_of c.args.script.now) in
    let sites = c.deref-sites.result.now in
    let told = why_text names (facts_of (script_of c.args.script.now).processes c.args.state.now) c.args.rows sites in
    let tokens : seen c.deref-placed.result.now ≡ placed_tokens c.args.source.now = ap (λ (ps : List Placed). seen ps) c.deref-placed.ensures.value ∙ c.in_ok-tokens.ensures.tokens in
    let texts = seen_texts c.deref.result.now in
    let are_texts : texts ≡ texts_below (seen c.deref-placed.result.now) (length sites) = ap (λ (l : List (Vec WrittenOffer)). seen_texts l) c.deref.ensures.value ∙ c.in_ok-texts.ensures in
    record {
      sites = sites;
      are = subst (λ (ss : List Site). AreSites (script_of c.args.script.now).processes c.args.commits.now c.args.state.now ss) (sym c.deref-sites.ensures.value) c.in_ok-told.ensures;
      facts = facts_of (script_of c.args.script.now).processes c.args.state.now;
      tells_fired = λ n. tells-fired c.args.state.now n;
      tells_ended = λ t. tells-ended c.args.state.now t;
      processes = refl;
      next = c.in_ok-next.next;
      tells_next = c.in_ok-next.ensures;
      texts = texts;
      are_texts = are_texts ∙ ap (λ (l : List (Token × ℕ)). texts_below l (length sites)) tokens;
      knot = c.in_ok-knot.knot.items;
      is_knot = c.in_ok-knot.ensures;
      is =
          c.in_ok-push_last.ensures
          ∙ ap (λ (l : List ℕ). l ++ last_text names texts sites c.in_ok-next.next c.deref-2.result.now) (c.in_ok-push_processes.ensures ∙ ap (λ (l : List ℕ). l ++ told) c.new-out.ensures.bytes)
          ∙ ap (λ (k : List ℕ). told ++ last_text names texts sites c.in_ok-next.next k) c.deref-2.ensures.value;
    }

pub knot-requires-clause-texts : goal.knot-requires-clause-texts
knot-requires-clause-texts c =
    ap length c.deref.ensures.value ∙ sym (length-map c.in_ok-texts.texts.items (λ (v : Vec WrittenOffer). seen_offers v.items)) ∙ ap length c.in_ok-texts.ensures
    ∙ length-texts (seen c.deref-placed.result.now) (length c.deref-sites.result.now)

pub push_last-requires : goal.push_last-requires
push_last-requires c =
    ap length c.deref.ensures.value ∙ sym (length-map c.in_ok-texts.texts.items (λ (v : Vec WrittenOffer). seen_offers v.items)) ∙ ap length c.in_ok-texts.ensures
    ∙ length-texts (seen c.deref-placed.result.now) (length c.deref-sites.result.now)

pub sites_at-requires-clause-stands : goal.sites_at-requires-clause-stands
sites_at-requires-clause-stands c = (c.args.rows, c.requires.stands)
