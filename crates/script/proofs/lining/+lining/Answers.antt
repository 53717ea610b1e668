use Rattle.std.proofs.Common.{◌≡◌, ◌+◌, rules, ap, sym, ◌∙◌, arith}
use Rattle.script_tree.specs.declared.tree.Block.{the_lemmas}
use Rattle.script_tree.specs.Lined.{block_of, event_of, events_of}
use Rattle.script_tree.specs.Trees as plain
use Rattle.script.specs.Lining.{count_block, count_members, count_stmt, lined_stmt}
use Rattle.script.proofs.Putting.{before, before_last, block_step, members_before, members_before_last, members_step}
use Rattle.script.proofs.lining.+lining.Goals as goal

pub line_block-loop-rest-preserved : goal.line_block-loop-rest-preserved
line_block-loop-rest-preserved t c =
    let lines = c.args.lines.now in
    let stmt = plain.stmt_of c.in-Then.stmt in
    let rest = plain.block_of c.deref-rest.result.now in
    let is : plain.block_of c.loop-rest.rest.now ≡ plain.Runs stmt rest = ap plain.block_of c.in-Then.is ∙ ap (λ b. plain.Runs stmt (plain.block_of b)) (sym c.deref-rest.ensures) in
    let i = c.loop-rest.invariant in
    record {
      same =
          block_step lines c.loop-rest.parts.items c.push.new.self.items c.in_ok-part.part c.in_ok-line.line c.loop-rest.next c.line_stmt.new.next stmt _ rest _ c.in_ok-push.ensures.items c.in_ok-line.ensures.line
          (c.in_ok-part.ensures.stmt ∙ ap (λ n. lined_stmt lines n stmt) c.in_ok-line.ensures.next) (c.in_ok-part.ensures.next ∙ ap (λ n. n + count_stmt stmt) c.in_ok-line.ensures.next) is i.same;
      count = omega (arith, i.count, ap count_block is, c.in_ok-part.ensures.next, c.in_ok-line.ensures.next);
      size = search (rules, the_lemmas);
    }

pub line_block-loop-part-preserved : goal.line_block-loop-part-preserved
line_block-loop-part-preserved t c = record {
  same =
      ap (λ b. before c.pop.new.self.items (block_of b)) c.in_ok-all-2.ensures.ok
      ∙ sym (before_last c.pop.new.self.items c.in-Some.part c.in-Some.line (block_of c.loop-part.all.value))
      ∙ sym (ap (λ l. before l (block_of c.loop-part.all.value)) c.in-Some.ensures.items)
      ∙ c.loop-part.invariant.same;
}

pub line_members-loop-member-preserved : goal.line_members-loop-member-preserved
line_members-loop-member-preserved t c =
    let is = ap plain.events_of (sym c.deref.ensures ∙ c.in-More.is) in
    let i = c.loop-member.invariant in
    record {
      same = members_step c.args.lines.now c.loop-member.parts.items c.push.new.self.items c.in_ok-line_event.field-0 c.loop-member.next c.line_event.new.next (plain.event_of c.in-More.member.value) _ _ _ c.in_ok-push.ensures.items c.in_ok-line_event.ensures.event c.in_ok-line_event.ensures.next is i.same;
      count = omega (arith, i.count, ap count_members is, c.in_ok-line_event.ensures.next);
      size = search (rules, the_lemmas);
    }

pub line_members-loop-part-preserved : goal.line_members-loop-part-preserved
line_members-loop-part-preserved t c = record {
  same =
      ap (λ m. members_before c.pop.new.self.items (events_of m)) c.in_ok-all-2.ensures.ok
      ∙ sym (members_before_last c.pop.new.self.items c.in-Some.part (events_of c.loop-part.all.value))
      ∙ sym (ap (λ l. members_before l (events_of c.loop-part.all.value)) c.in-Some.ensures.items)
      ∙ c.loop-part.invariant.same;
}
