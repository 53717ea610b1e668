-- A line that is read is that of its commit, and the line of a commit is read as it.
use Rattle.std.proofs.Common.{◌≡◌, ◌⊎◌, ℕ, ◌<◌, ◌≤◌, cond, eqb, List, [], ◌∷◌, ◌++◌, length, drop, get_or, codes, Some, None, refl, sym, ap, subst, ◌∙◌, append_assoc, arith, inl, inr}
use Rattle.std.proofs.lemmas.Bool.{eqb-true}
use Rattle.std.proofs.lemmas.Option.{some_pair_parts}
use Rattle.protocol_values.specs.declared.NackName.{NackName}
use Rattle.protocol_values.specs.declared.Row.{Row}
use Rattle.protocol_values.specs.declared.Atom.{Atom}
use Rattle.protocol_values.specs.declared.Atom.TheVariants.{Num, Chan, Nack}
use Rattle.protocol_values.specs.declared.Message.{Message}
use Rattle.protocol_values.specs.declared.Message.TheVariants.{Empty, One, Two, Three}
use Rattle.protocol_values.specs.declared.Cause.TheVariants as causes
use Rattle.protocol_values.specs.declared.Commit.{Commit}
use Rattle.protocol_values.specs.declared.Commit.TheVariants.{Pair, Alone}
use Rattle.digits.specs.Reading.{◌>>=◌, leading_at, ended_by, begins, after_word}
use Rattle.digits.proofs.Numbers.{bind_some, chosen, chosen_some}
use Rattle.digits.proofs.Forms.{Reads, both, made, ended, ending, leadings, numbers, counts, word_takes, worded, first_or_second, either, Either, choice, settled}
use Rattle.script.specs.Names.{AreNames}
use Rattle.journal_text.specs.Names.{Declared, naming}
use Rattle.journal_text.specs.Texts.{place_text, nack_text, atom_text, message_text, commit_line}
use Rattle.journal_text.specs.Journals.{HasPlace, HasNack, HasAtom, HasMessage, HasLine, IsStamp}
use Rattle.journal_text.specs.Reading.{after_byte, named_at, row_at, place_at, nack_at, num_at, chan_at, cancel_at, atom_at, later_at, one_at, two_at, three_at, none_at, atoms_at, closed_at, message_at, partner_at, told_at, meets_at, always_at, cancelled_at, joined_at, deed_at, head_at, commit_of, line_at}
use Rattle.journal_text.specs.declared.line.Deed.{Deed}
use Rattle.journal_text.specs.declared.line.Deed.TheVariants as deeds
use Rattle.journal_text.proofs.Naming.{byte_takes, names_read, ended_name}

module _ (d : Declared) (threads : AreNames d.threads) (channels : AreNames d.channels) where
  -- PLACES AND NACKS

  thread_names : Reads {X = ℕ} (λ n. n) (λ bytes. ended_by 46 (named_at d.threads bytes)) (ended_name d.threads 46) (λ n. n < length d.threads)
  thread_names = ending 46 (λ n. get_or d.threads n []) (λ n. n < length d.threads) (omega arith) (names_read d.threads threads)

  channel_names : Reads {X = ℕ} (λ n. n) (λ bytes. ended_by 32 (named_at d.channels bytes)) (ended_name d.channels 32) (λ n. n < length d.channels)
  channel_names = ending 32 (λ n. get_or d.channels n []) (λ n. n < length d.channels) (omega arith) (names_read d.channels channels)

  rows : Reads {X = ℕ × ℕ} (λ p. record { thread = p.0; sync = p.1 }) (row_at d) (λ p. ended_name d.threads 46 p.0 ++ ended 46 p.1) (λ p. (p.0 < length d.threads) × (p.1 ≤ 67107839))
  unfolding row_at
  rows = both (λ thread sync. record { thread = thread; sync = sync }) thread_names (numbers 67107839 46 (omega arith) (omega arith))

  places_in_parts : Reads {X = (ℕ × ℕ) × ℕ} (λ p. (record { thread = p.0.0; sync = p.0.1 }, p.1)) (place_at d) (λ p. (ended_name d.threads 46 p.0.0 ++ ended 46 p.0.1) ++ ended 32 p.1) (λ p. ((p.0.0 < length d.threads) × (p.0.1 ≤ 67107839)) × (p.1 ≤ 7))
  unfolding place_at
  places_in_parts = both (λ row offer. (row, offer)) rows (numbers 7 32 (omega arith) (omega arith))

  places : Reads {X = Row × ℕ} (λ p. p) (place_at d) (λ p. place_text (naming d) p ++ 32 ∷ []) (HasPlace d)
  places = settled (λ p. place_text (naming d) p ++ 32 ∷ []) (HasPlace d) places_in_parts (λ x fits. (simp append_assoc, (fits.0.0, fits.0.1, fits.1))) (λ p fits. (((p.0.thread, p.0.sync), p.1), refl, ((fits.0, fits.1), fits.2)))

  -- a nack, and the byte behind it
  nacks_in_parts : Reads {X = ℕ × (ℕ × ℕ)} (λ p. (record { thread = p.0; k = p.1.0 }, p.1.1)) (nack_at d) (λ p. ended_name d.threads 46 p.0 ++ ended p.1.1 p.1.0) (λ p. (p.0 < length d.threads) × ((p.1.0 ≤ 63) × (p.1.1 < 48)))
  unfolding nack_at
  nacks_in_parts = both (λ thread k. (record { thread = thread; k = k.0 }, k.1)) thread_names (leadings 63 (omega arith))

  nacks : Reads {X = NackName × ℕ} (λ p. p) (nack_at d) (λ p. nack_text (naming d) p.0 ++ p.1 ∷ []) (λ p. HasNack d p.0 × (p.1 < 48))
  nacks = settled (λ p. nack_text (naming d) p.0 ++ p.1 ∷ []) (λ p. HasNack d p.0 × (p.1 < 48)) nacks_in_parts (λ x fits. (simp append_assoc, ((fits.0, fits.1.0), fits.1.1))) (λ p fits. ((p.0.thread, (p.0.k, p.1)), refl, (fits.0.0, (fits.0.1, fits.1))))

  -- ATOMS, each with the byte behind it

  nums : Reads {X = ℕ × ℕ} (λ p. (Num p.0, p.1)) num_at (λ p. ended p.1 p.0) (λ p. (p.0 ≤ 4294967295) × (p.1 < 48))
  unfolding num_at
  nums = made (λ p. (Num p.0, p.1)) (leadings 4294967295 (omega arith))

  chans : Reads {X = ℕ × ℕ} (λ p. (Chan p.0, p.1)) (chan_at d) (λ p. codes "#" ++ ended_name d.channels p.1 p.0) (λ p. (p.0 < length d.channels) × (p.1 < 48))
  unfolding chan_at
  chans = worded (codes "#") (λ p. (Chan p.0, p.1)) (names_read d.channels channels)

  cancels : Reads {X = NackName × ℕ} (λ p. (Nack p.0, p.1)) (cancel_at d) (λ p. codes "!" ++ (nack_text (naming d) p.0 ++ p.1 ∷ [])) (λ p. HasNack d p.0 × (p.1 < 48))
  unfolding cancel_at
  cancels = worded (codes "!") (λ p. (Nack p.0, p.1)) nacks

  kinds_apart : (z : NackName × ℕ) (rest : List ℕ) → HasNack d z.0 × (z.1 < 48) → chan_at d ((codes "!" ++ (nack_text (naming d) z.0 ++ z.1 ∷ [])) ++ rest) ≡ None
  unfolding chan_at
  kinds_apart z rest fits = refl

  abbrev Kinds : Type 0
  Kinds = (ℕ × ℕ) ⊎ ((ℕ × ℕ) ⊎ (NackName × ℕ))

  abbrev kind_text : (ℕ × ℕ) ⊎ (NackName × ℕ) → List ℕ
  kind_text z = either (λ p. codes "#" ++ ended_name d.channels p.1 p.0) (λ p. codes "!" ++ (nack_text (naming d) p.0 ++ p.1 ∷ [])) z

  abbrev HasKind : (ℕ × ℕ) ⊎ (NackName × ℕ) → Type 0
  HasKind z = Either (λ p. (p.0 < length d.channels) × (p.1 < 48)) (λ p. HasNack d p.0 × (p.1 < 48)) z

  number_apart : (z : (ℕ × ℕ) ⊎ (NackName × ℕ)) (rest : List ℕ) → HasKind z → num_at (kind_text z ++ rest) ≡ None
  unfolding num_at leading_at
  number_apart (inl c) rest fits = refl
  number_apart (inr n) rest fits = refl

  abbrev atom_of : Kinds → Atom × ℕ
  atom_of x = either (λ p. (Num p.0, p.1)) (either (λ p. (Chan p.0, p.1)) (λ p. (Nack p.0, p.1))) x

  atoms_in_parts : Reads {X = Kinds} atom_of (atom_at d) (either (λ p. ended p.1 p.0) kind_text) (Either (λ p. (p.0 ≤ 4294967295) × (p.1 < 48)) HasKind)
  unfolding atom_at
  atoms_in_parts = choice nums (choice chans cancels kinds_apart) number_apart

  abbrev atom_ended : Atom × ℕ → List ℕ
  atom_ended p = atom_text (naming d) p.0 ++ p.1 ∷ []

  abbrev HasAtomEnded : Atom × ℕ → Type 0
  HasAtomEnded p = HasAtom d p.0 × (p.1 < 48)

  atoms : Reads {X = Atom × ℕ} (λ p. p) (atom_at d) atom_ended HasAtomEnded
  atoms = settled atom_ended HasAtomEnded atoms_in_parts there back
    where
      there : (x : Kinds) → Either (λ p. (p.0 ≤ 4294967295) × (p.1 < 48)) HasKind x → (either (λ p. ended p.1 p.0) kind_text x ≡ atom_ended (atom_of x)) × HasAtomEnded (atom_of x)
      there (inl p) fits = (refl, fits)
      there (inr (inl p)) fits = (refl, fits)
      there (inr (inr p)) fits = (refl, fits)

      back : (p : Atom × ℕ) → HasAtomEnded p → (x : Kinds) × (atom_of x ≡ p) × Either (λ p. (p.0 ≤ 4294967295) × (p.1 < 48)) HasKind x
      back (Num n, e) fits = (inl (n, e), refl, fits)
      back (Chan c, e) fits = (inr (inl (c, e)), refl, fits)
      back (Nack n, e) fits = (inr (inr (n, e)), refl, fits)

  -- MESSAGES

  -- one more atom, which stands behind a comma and a space
  record TakesLater (behind : ℕ) (bytes : List ℕ) (p : Atom × ℕ) (rest : List ℕ) : Type 0 where
    comma : behind ≡ 44
    parts : bytes ≡ codes " " ++ (atom_ended p ++ rest)
    fits : HasAtomEnded p

  later_takes : (behind : ℕ) (bytes : List ℕ) (p : Atom × ℕ) (rest : List ℕ) → later_at d behind bytes ≡ Some (p, rest) → TakesLater behind bytes p rest
  unfolding later_at
  later_takes behind bytes p rest e =
      elim (chosen (eqb behind 44) (after_word (codes " ") bytes >>= λ rest. atom_at d rest) None (Some (p, rest)) e) [
        | inl h ↦
            let a = bind_some (after_word (codes " ") bytes) (λ rest. atom_at d rest) (p, rest) h.1 in
            let w = chosen_some (begins bytes (codes " ")) (drop 1 bytes) a.0 a.1 in
            let t = atoms.takes a.0 p rest a.2 in
            record {
              comma = eqb-true behind 44 h.0;
              parts = word_takes (codes " ") bytes w.0 ∙ ap (λ (x : List ℕ). codes " " ++ x) (w.1 ∙ t.parts ∙ ap (λ (q : Atom × ℕ). atom_ended q ++ rest) (sym t.value));
              fits = subst HasAtomEnded (sym t.value) t.fits;
            }
        | inr h ↦ absurd cc
      ]

  later_again : (p : Atom × ℕ) (rest : List ℕ) → HasAtomEnded p → later_at d 44 (codes " " ++ (atom_ended p ++ rest)) ≡ Some (p, rest)
  unfolding later_at
  later_again p rest fits = atoms.again p rest fits

  -- the atoms and the parenthesis behind them
  abbrev inside_text : Message → List ℕ
  inside_text Empty = 41 ∷ []
  inside_text (One a) = atom_text (naming d) a ++ 41 ∷ []
  inside_text (Two a b) = (atom_text (naming d) a ++ 44 ∷ []) ++ (codes " " ++ (atom_text (naming d) b ++ 41 ∷ []))
  inside_text (Three a b c) = ((atom_text (naming d) a ++ 44 ∷ []) ++ (codes " " ++ (atom_text (naming d) b ++ 44 ∷ []))) ++ (codes " " ++ (atom_text (naming d) c ++ 41 ∷ []))

  close_low : 41 < 48
  close_low = omega arith

  comma_low : 44 < 48
  comma_low = omega arith

  -- what was read of a message of which atoms had been read, whose text is the front
  record TakesMore (front bytes : List ℕ) (had : Type 0) (m : Message) (rest : List ℕ) : Type 0 where
    parts : front ++ bytes ≡ inside_text m ++ rest
    fits : had → HasMessage d m

  abbrev text_of : Atom → List ℕ
  text_of a = atom_text (naming d) a

  three_takes : (a b : Atom) (behind : ℕ) (bytes : List ℕ) (m : Message) (rest : List ℕ) → three_at d (a, b) behind bytes ≡ Some (m, rest)
      → TakesMore ((text_of a ++ 44 ∷ []) ++ (codes " " ++ (text_of b ++ behind ∷ []))) bytes (HasAtom d a × HasAtom d b) m rest
  unfolding three_at
  three_takes a b behind bytes m rest e =
      let c = bind_some (later_at d behind bytes) (λ c. cond (eqb c.0.1 41) (Some (Three a b c.0.0, c.1)) None) (m, rest) e in
      let w = chosen_some (eqb c.0.0.1 41) (Three a b c.0.0.0, c.0.1) (m, rest) c.2 in
      let t = later_takes behind bytes c.0.0 c.0.1 c.1 in
      let value : Three a b c.0.0.0 ≡ m = ap (λ (x : Message × List ℕ). x.0) w.1 in
      let after : c.0.1 ≡ rest = ap (λ (x : Message × List ℕ). x.1) w.1 in
      let close : c.0.0.1 ≡ 41 = eqb-true c.0.0.1 41 w.0 in
      let front : ℕ → List ℕ = λ e. (text_of a ++ 44 ∷ []) ++ (codes " " ++ (text_of b ++ e ∷ [])) in
      let whole : front 44 ++ (codes " " ++ ((text_of c.0.0.0 ++ 41 ∷ []) ++ rest)) ≡ inside_text (Three a b c.0.0.0) ++ rest = simp append_assoc in
      record {
        parts =
            ap (λ (e : ℕ). front e ++ bytes) t.comma ∙ ap (λ (s : List ℕ). front 44 ++ s) (t.parts ∙ ap (λ (e : ℕ). codes " " ++ ((text_of c.0.0.0 ++ e ∷ []) ++ c.0.1)) close ∙ ap (λ (s : List ℕ). codes " " ++ ((text_of c.0.0.0 ++ 41 ∷ []) ++ s)) after)
            ∙ whole ∙ ap (λ (x : Message). inside_text x ++ rest) value;
        fits = λ had. subst (HasMessage d) value (had, t.fits.0);
      }

  two_takes : (a : Atom) (behind : ℕ) (bytes : List ℕ) (m : Message) (rest : List ℕ) → two_at d a behind bytes ≡ Some (m, rest) → TakesMore (text_of a ++ behind ∷ []) bytes (HasAtom d a) m rest
  unfolding two_at
  two_takes a behind bytes m rest e =
      let b = bind_some (later_at d behind bytes) (λ b. cond (eqb b.0.1 41) (Some (Two a b.0.0, b.1)) (three_at d (a, b.0.0) b.0.1 b.1)) (m, rest) e in
      let t = later_takes behind bytes b.0.0 b.0.1 b.1 in
      let front = ap (λ (e : ℕ). (text_of a ++ e ∷ []) ++ bytes) t.comma ∙ ap (λ (s : List ℕ). (text_of a ++ 44 ∷ []) ++ s) t.parts in
      elim (chosen (eqb b.0.0.1 41) (Some (Two a b.0.0.0, b.0.1)) (three_at d (a, b.0.0.0) b.0.0.1 b.0.1) (Some (m, rest)) b.2) [
        | inl h ↦
            let same = some_pair_parts (Two a b.0.0.0) m b.0.1 rest h.1 in
            let close : b.0.0.1 ≡ 41 = eqb-true b.0.0.1 41 h.0 in
            let whole : (text_of a ++ 44 ∷ []) ++ (codes " " ++ ((text_of b.0.0.0 ++ 41 ∷ []) ++ rest)) ≡ inside_text (Two a b.0.0.0) ++ rest = simp append_assoc in
            record {
              parts =
                  front ∙ ap (λ (e : ℕ). (text_of a ++ 44 ∷ []) ++ (codes " " ++ ((text_of b.0.0.0 ++ e ∷ []) ++ b.0.1))) close
                  ∙ ap (λ (s : List ℕ). (text_of a ++ 44 ∷ []) ++ (codes " " ++ ((text_of b.0.0.0 ++ 41 ∷ []) ++ s))) same.1
                  ∙ whole ∙ ap (λ (x : Message). inside_text x ++ rest) same.0;
              fits = λ had. subst (HasMessage d) same.0 (had, t.fits.0);
            }
        | inr h ↦
            let more = three_takes a b.0.0.0 b.0.0.1 b.0.1 m rest h.1 in
            let whole : (text_of a ++ 44 ∷ []) ++ (codes " " ++ ((text_of b.0.0.0 ++ b.0.0.1 ∷ []) ++ b.0.1)) ≡ ((text_of a ++ 44 ∷ []) ++ (codes " " ++ (text_of b.0.0.0 ++ b.0.0.1 ∷ []))) ++ b.0.1 = simp append_assoc in
            record { parts = front ∙ whole ∙ more.parts; fits = λ had. more.fits (had, t.fits.0) }
      ]

  one_takes : (bytes : List ℕ) (m : Message) (rest : List ℕ) → one_at d bytes ≡ Some (m, rest) → TakesMore [] bytes (Unit {0}) m rest
  unfolding one_at
  one_takes bytes m rest e =
      let a = bind_some (atom_at d bytes) (λ a. cond (eqb a.0.1 41) (Some (One a.0.0, a.1)) (two_at d a.0.0 a.0.1 a.1)) (m, rest) e in
      let t = atoms.takes bytes a.0.0 a.0.1 a.1 in
      let front = t.parts ∙ ap (λ (p : Atom × ℕ). atom_ended p ++ a.0.1) (sym t.value) in
      let has : HasAtom d a.0.0.0 = (subst HasAtomEnded (sym t.value) t.fits).0 in
      elim (chosen (eqb a.0.0.1 41) (Some (One a.0.0.0, a.0.1)) (two_at d a.0.0.0 a.0.0.1 a.0.1) (Some (m, rest)) a.2) [
        | inl h ↦
            let same = some_pair_parts (One a.0.0.0) m a.0.1 rest h.1 in
            let close : a.0.0.1 ≡ 41 = eqb-true a.0.0.1 41 h.0 in
            record {
              parts = front ∙ ap (λ (e : ℕ). (text_of a.0.0.0 ++ e ∷ []) ++ a.0.1) close ∙ ap (λ (s : List ℕ). (text_of a.0.0.0 ++ 41 ∷ []) ++ s) same.1 ∙ ap (λ (x : Message). inside_text x ++ rest) same.0;
              fits = λ had. subst (HasMessage d) same.0 has;
            }
        | inr h ↦
            let more = two_takes a.0.0.0 a.0.0.1 a.0.1 m rest h.1 in
            record { parts = front ∙ more.parts; fits = λ had. more.fits has }
      ]

  none_takes : (bytes : List ℕ) (m : Message) (rest : List ℕ) → none_at bytes ≡ Some (m, rest) → TakesMore [] bytes (Unit {0}) m rest
  unfolding none_at
  none_takes bytes m rest e =
      let a = bind_some (after_byte 41 bytes) (λ rest. Some (Empty, rest)) (m, rest) e in
      let same = some_pair_parts Empty m a.0 rest a.2 in
      record {
        parts = byte_takes 41 bytes a.0 a.1 ∙ ap (λ (x : List ℕ). 41 ∷ x) same.1 ∙ ap (λ (x : Message). inside_text x ++ rest) same.0;
        fits = λ had. subst (HasMessage d) same.0 tt;
      }

  nothing_read : (rest : List ℕ) → one_at d (41 ∷ rest) ≡ None
  unfolding one_at atom_at num_at chan_at cancel_at leading_at
  nothing_read rest = refl

  inside_again : (m : Message) (rest : List ℕ) → HasMessage d m → atoms_at d (inside_text m ++ rest) ≡ Some (m, rest)
  unfolding atoms_at one_at two_at three_at none_at
  inside_again Empty rest fits = rw (nothing_read rest) refl
  inside_again (One a) rest fits = rw (atoms.again (a, 41) rest (fits, close_low)) refl
  inside_again (Two a b) rest fits =
      let whole : inside_text (Two a b) ++ rest ≡ atom_ended (a, 44) ++ (codes " " ++ (atom_ended (b, 41) ++ rest)) = simp append_assoc in
      ap (atoms_at d) whole ∙ rw (atoms.again (a, 44) (codes " " ++ (atom_ended (b, 41) ++ rest)) (fits.0, comma_low), later_again (b, 41) rest (fits.1, close_low)) refl
  inside_again (Three a b c) rest fits =
      let third : List ℕ = codes " " ++ (atom_ended (c, 41) ++ rest) in
      let whole : inside_text (Three a b c) ++ rest ≡ atom_ended (a, 44) ++ (codes " " ++ (atom_ended (b, 44) ++ third)) = simp append_assoc in
      ap (atoms_at d) whole
      ∙ rw (atoms.again (a, 44) (codes " " ++ (atom_ended (b, 44) ++ third)) (fits.0.0, comma_low), later_again (b, 44) third (fits.0.1, comma_low), later_again (c, 41) rest (fits.1, close_low)) refl

  inside : Reads {X = Message} (λ m. m) (atoms_at d) inside_text (HasMessage d)
  unfolding atoms_at
  inside = record {
    takes = λ bytes m rest e.
        elim (first_or_second (one_at d bytes) (none_at bytes) (m, rest) e) [
          | inl h ↦ (let t = one_takes bytes m rest h in record { from = m; value = refl; parts = t.parts; fits = t.fits tt })
          | inr h ↦ (let t = none_takes bytes m rest h in record { from = m; value = refl; parts = t.parts; fits = t.fits tt })
        ];
    again = inside_again;
  }

  closed : Reads {X = Message} (λ m. m) (closed_at d) (λ m. inside_text m ++ 10 ∷ []) (HasMessage d)
  unfolding closed_at
  closed = record {
    takes = λ bytes y rest e.
        let a = bind_some (atoms_at d bytes) (λ m. after_byte 10 m.1 >>= λ rest. Some (m.0, rest)) (y, rest) e in
        let b = bind_some (after_byte 10 a.0.1) (λ rest. Some (a.0.0, rest)) (y, rest) a.2 in
        let p = inside.takes bytes a.0.0 a.0.1 a.1 in
        let same = some_pair_parts a.0.0 y b.0 rest b.2 in
        let behind : a.0.1 ≡ 10 ∷ rest = byte_takes 10 a.0.1 b.0 b.1 ∙ ap (λ (x : List ℕ). 10 ∷ x) same.1 in
        record {
          from = p.from;
          value = sym same.0 ∙ p.value;
          parts = p.parts ∙ ap (λ (x : List ℕ). inside_text p.from ++ x) behind ∙ sym (append_assoc (inside_text p.from) (10 ∷ []) rest);
          fits = p.fits;
        };
    again = λ m rest fits. ap (closed_at d) (append_assoc (inside_text m) (10 ∷ []) rest) ∙ rw (inside.again m (10 ∷ rest) fits) refl;
  }

  messages : Reads {X = Message} (λ m. m) (message_at d) (λ m. message_text (naming d) m ++ 10 ∷ []) (HasMessage d)
  unfolding message_at
  messages = settled (λ m. message_text (naming d) m ++ 10 ∷ []) (HasMessage d) (worded (codes "(") (λ m. m) closed) (λ m fits. (same m, fits)) (λ m fits. (m, refl, fits))
    where
      same : (m : Message) → codes "(" ++ (inside_text m ++ 10 ∷ []) ≡ message_text (naming d) m ++ 10 ∷ []
      same Empty = refl
      same (One a) = simp append_assoc
      same (Two a b) = simp append_assoc
      same (Three a b c) = simp append_assoc

  -- LINES

  partners : Reads {X = (Row × ℕ) × ℕ} (λ p. (p.0, p.1)) (partner_at d) (λ p. (place_text (naming d) p.0 ++ 32 ∷ []) ++ ended_name d.channels 32 p.1) (λ p. HasPlace d p.0 × (p.1 < length d.channels))
  unfolding partner_at
  partners = both {Y = (Row × ℕ) × ℕ} (λ receiver chan. (receiver, chan)) places channel_names

  abbrev Meeting : Type 0
  Meeting = ((Row × ℕ) × ℕ) × Message

  abbrev meeting_text : Meeting → List ℕ
  meeting_text x = ((place_text (naming d) x.0.0 ++ 32 ∷ []) ++ ended_name d.channels 32 x.0.1) ++ (message_text (naming d) x.1 ++ 10 ∷ [])

  abbrev HasMeeting : Meeting → Type 0
  HasMeeting x = (HasPlace d x.0.0 × (x.0.1 < length d.channels)) × HasMessage d x.1

  told : Reads {X = Meeting} (λ x. deeds.Meets x.0.0 x.0.1 x.1) (told_at d) meeting_text HasMeeting
  unfolding told_at
  told = both (λ p m. deeds.Meets p.0 p.1 m) partners messages

  meets : Reads {X = Meeting} (λ x. deeds.Meets x.0.0 x.0.1 x.1) (meets_at d) (λ x. codes "-> " ++ meeting_text x) HasMeeting
  unfolding meets_at
  meets = worded (codes "-> ") (λ x. x) told

  always : Reads {X = Message} (λ m. deeds.Alone (causes.Always m)) (always_at d) (λ m. codes "always " ++ (message_text (naming d) m ++ 10 ∷ [])) (HasMessage d)
  unfolding always_at
  always = worded (codes "always ") (λ m. deeds.Alone (causes.Always m)) messages

  cancelled : Reads {X = NackName} (λ n. deeds.Alone (causes.Nack n)) (cancelled_at d) (λ n. codes "cancelled " ++ (nack_text (naming d) n ++ 10 ∷ [])) (HasNack d)
  unfolding cancelled_at
  cancelled = worded (codes "cancelled ") (λ n. deeds.Alone (causes.Nack n)) (ending 10 (nack_text (naming d)) (HasNack d) (omega arith) nacks)

  joined : Reads {X = ℕ} (λ t. deeds.Alone (causes.End t)) (joined_at d) (λ t. codes "joined " ++ ended_name d.threads 10 t) (λ t. t < length d.threads)
  unfolding joined_at
  joined = worded (codes "joined ") (λ t. deeds.Alone (causes.End t)) (ending 10 (λ n. get_or d.threads n []) (λ n. n < length d.threads) (omega arith) (names_read d.threads threads))

  -- a nack or an end
  abbrev waited_text : NackName ⊎ ℕ → List ℕ
  waited_text z = either (λ n. codes "cancelled " ++ (nack_text (naming d) n ++ 10 ∷ [])) (λ t. codes "joined " ++ ended_name d.threads 10 t) z

  abbrev HasWaited : NackName ⊎ ℕ → Type 0
  HasWaited z = Either (HasNack d) (λ t. t < length d.threads) z

  abbrev alone_text : Message ⊎ (NackName ⊎ ℕ) → List ℕ
  alone_text z = either (λ m. codes "always " ++ (message_text (naming d) m ++ 10 ∷ [])) waited_text z

  cancelled_apart : (t : ℕ) (rest : List ℕ) → t < length d.threads → cancelled_at d ((codes "joined " ++ ended_name d.threads 10 t) ++ rest) ≡ None
  unfolding cancelled_at
  cancelled_apart t rest fits = refl

  always_apart : (z : NackName ⊎ ℕ) (rest : List ℕ) → HasWaited z → always_at d (waited_text z ++ rest) ≡ None
  unfolding always_at
  always_apart (inl n) rest fits = refl
  always_apart (inr t) rest fits = refl

  meets_apart : (z : Message ⊎ (NackName ⊎ ℕ)) (rest : List ℕ) → Either (HasMessage d) HasWaited z → meets_at d (alone_text z ++ rest) ≡ None
  unfolding meets_at
  meets_apart (inl m) rest fits = refl
  meets_apart (inr (inl n)) rest fits = refl
  meets_apart (inr (inr t)) rest fits = refl

  abbrev Done : Type 0
  Done = Meeting ⊎ (Message ⊎ (NackName ⊎ ℕ))

  abbrev deed_of : Done → Deed
  deed_of x = either (λ x. deeds.Meets x.0.0 x.0.1 x.1) (either (λ m. deeds.Alone (causes.Always m)) (either (λ n. deeds.Alone (causes.Nack n)) (λ t. deeds.Alone (causes.End t)))) x

  abbrev done_text : Done → List ℕ
  done_text x = either (λ x. codes "-> " ++ meeting_text x) alone_text x

  abbrev HasDone : Done → Type 0
  HasDone x = Either HasMeeting (Either (HasMessage d) HasWaited) x

  done : Reads {X = Done} deed_of (deed_at d) done_text HasDone
  unfolding deed_at
  done = choice meets (choice always (choice cancelled joined cancelled_apart) always_apart) meets_apart

  heads : Reads {X = ℕ × (Row × ℕ)} (λ h. (h.0, h.1)) (head_at d) (λ h. ended 32 h.0 ++ (place_text (naming d) h.1 ++ 32 ∷ [])) (λ h. IsStamp h.0 × HasPlace d h.1)
  unfolding head_at
  heads = both {Y = ℕ × (Row × ℕ)} (λ stamp place. (stamp, place)) (counts 4294967295 32 (omega arith) (omega arith)) places

  abbrev Whole : Type 0
  Whole = (ℕ × (Row × ℕ)) × Done

  lines_in_parts : Reads {X = Whole} (λ x. commit_of x.0 (deed_of x.1)) (line_at d) (λ x. (ended 32 x.0.0 ++ (place_text (naming d) x.0.1 ++ 32 ∷ [])) ++ done_text x.1) (λ x. (IsStamp x.0.0 × HasPlace d x.0.1) × HasDone x.1)
  unfolding line_at
  lines_in_parts = both commit_of heads done

  pub lines : Reads {X = Commit} (λ c. c) (line_at d) (commit_line (naming d)) (HasLine d)
  lines = settled (commit_line (naming d)) (HasLine d) lines_in_parts there back
    where
      there : (x : Whole) → (IsStamp x.0.0 × HasPlace d x.0.1) × HasDone x.1
          → ((ended 32 x.0.0 ++ (place_text (naming d) x.0.1 ++ 32 ∷ [])) ++ done_text x.1 ≡ commit_line (naming d) (commit_of x.0 (deed_of x.1))) × HasLine d (commit_of x.0 (deed_of x.1))
      there (h, inl m) fits = (simp append_assoc, (fits.0, (fits.1.0.0, fits.1.0.1, fits.1.1)))
      there (h, inr (inl m)) fits = (simp append_assoc, fits)
      there (h, inr (inr (inl n))) fits = (simp append_assoc, fits)
      there (h, inr (inr (inr t))) fits = (simp append_assoc, fits)

      back : (c : Commit) → HasLine d c → (x : Whole) × (commit_of x.0 (deed_of x.1) ≡ c) × ((IsStamp x.0.0 × HasPlace d x.0.1) × HasDone x.1)
      back (Pair sender receiver chan msg stamp) fits = (((stamp, sender), inl ((receiver, chan), msg)), refl, (fits.0, ((fits.1.0, fits.1.1), fits.1.2)))
      back (Alone at (causes.Always m) stamp) fits = (((stamp, at), inr (inl m)), refl, fits)
      back (Alone at (causes.Nack n) stamp) fits = (((stamp, at), inr (inr (inl n))), refl, fits)
      back (Alone at (causes.End t) stamp) fits = (((stamp, at), inr (inr (inr t))), refl, fits)
