-- A run of a script that was read has a text.
use Rattle.std.proofs.Common.{refl, List, [], ◌∷◌}
use Rattle.std.specs.List.{AllByRecursion, AllByRecursion-prop}
use Rattle.std.specs.Coded.{×_prop, Unit-prop, le_prop}
use Rattle.protocol_values.specs.declared.Atom.{Atom}
use Rattle.protocol_values.specs.declared.Atom.TheVariants.{Num, Chan, Nack}
use Rattle.protocol_values.specs.declared.Cause.{Cause}
use Rattle.protocol_values.specs.declared.Cause.TheVariants as cause
use Rattle.protocol_values.specs.declared.Commit.{Commit}
use Rattle.protocol_values.specs.declared.Commit.TheVariants.{Pair, Alone}
use Rattle.protocol_values.specs.declared.Message.{Message}
use Rattle.protocol_values.specs.declared.Message.TheVariants.{Empty, One, Two, Three}
use Rattle.thread.proofs.Keeping.{EachOf}
use Rattle.journal_text.specs.Names.{Declared, names_of, named}
use Rattle.journal_text.specs.Journals.{HasAtom, HasCause, HasLine, HasMessage, Spells}
use Rattle.journal_text.specs.Texts.{commits_text}
use Rattle.journal_text.proofs.Journals.{spells_or_is_bad}
use Rattle.journal_text.specs.RunTexts.{RunHasLines, RunIsReadAgain, PrintedHasNames}
use Rattle.journal_text.proofs.Spelled.{has_text}
use Rattle.journal_text.proofs.Running.{printed_fine, run_lines}

-- EACH IS A FACT

atom_prop : (d : Declared) (a : Atom) → IsProp (HasAtom d a)
atom_prop d (Num n) = hlevel le_prop
atom_prop d (Chan c) = hlevel le_prop
atom_prop d (Nack n) = hlevel le_prop

message_prop : (d : Declared) (m : Message) → IsProp (HasMessage d m)
message_prop d Empty = Unit-prop
message_prop d (One a) = atom_prop d a
message_prop d (Two a b) = ×_prop (atom_prop d a) (atom_prop d b)
message_prop d (Three a b c) = ×_prop (×_prop (atom_prop d a) (atom_prop d b)) (atom_prop d c)

cause_prop : (d : Declared) (why : Cause) → IsProp (HasCause d why)
cause_prop d (cause.Always m) = message_prop d m
cause_prop d (cause.Nack n) = hlevel le_prop
cause_prop d (cause.End t) = hlevel le_prop

line_prop : (d : Declared) (c : Commit) → IsProp (HasLine d c)
line_prop d (Pair sender receiver chan msg stamp) = hlevel (le_prop, message_prop d msg)
line_prop d (Alone at why stamp) = hlevel (le_prop, cause_prop d why)

-- THE LAW

pub run_has_lines : RunHasLines
run_has_lines s spelled rows few journal run =
    ∥∥₁_rec (AllByRecursion-prop (HasLine (names_of s)) (line_prop (names_of s)) journal)
    (λ w. (run_lines s rows few (has_text w.0 s w.1) journal run).0) spelled

all_atoms : (d : Declared) (printed : List Atom) → EachOf (HasAtom d) printed → AllByRecursion (HasAtom d) printed
all_atoms d [] h = tt
all_atoms d (a ∷ printed) h = (h.0, all_atoms d printed h.1)

pub printed_has_names : PrintedHasNames
printed_has_names s spelled rows few journal run t end printed ends =
    ∥∥₁_rec (AllByRecursion-prop (HasAtom (names_of s)) (atom_prop (names_of s)) printed)
    (λ w.
    let text = has_text w.0 s w.1 in
    all_atoms (names_of s) printed (printed_fine s rows few text _ t end printed (run_lines s rows few text journal run).1 ends)) spelled

pub run_is_read_again : RunIsReadAgain
run_is_read_again s spelled rows few journal run =
    let bytes = commits_text (named s) journal in
    let spells : Spells s bytes journal = record { lines = run_has_lines s spelled rows few journal run; text = refl } in
    (spells, λ k bad. spells_or_is_bad s spelled bytes journal k spells bad)
