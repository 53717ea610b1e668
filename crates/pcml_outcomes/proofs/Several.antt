-- What is told of several values, one after another.
use Rattle.std.proofs.Common.{◌≡◌, ℕ, ◌++◌, List, [], ◌∷◌, Option, Some, None, map, refl, sym, ap, ◌∙◌}
use Rattle.std.specs.List.{flat_map}
use Rattle.std.proofs.lemmas.List.{append-nil, map-append}
use Rattle.std.proofs.lemmas.List.Concat.{flat_map-append}
use Rattle.script.specs.Sources.{Script}
use Rattle.pcml_answers.specs.declared.prints.Print.{Print}
use Rattle.pcml_outcomes.specs.Printed.{IsWithPart, TellEach, TellsPrinted, TellsPrints, first_of, graver, gravest}
use Rattle.pcml_outcomes.specs.Told.{bytes_of}
use Rattle.pcml_outcomes.specs.declared.finding.Finding.{Finding}
use Rattle.pcml_outcomes.specs.declared.finding.Finding.TheVariants.{Clear, Open, Stranded, Stuck}
use Rattle.pcml_outcomes.specs.declared.sought.SoughtText.{SoughtText}

-- FINDINGS

graver-clear : (f : Finding) → graver f Clear ≡ f
graver-clear Clear = refl
graver-clear Open = refl
graver-clear Stranded = refl
graver-clear Stuck = refl

graver-apart : (f g h : Finding) → graver (graver f g) h ≡ graver f (graver g h)
graver-apart Clear g h = refl
graver-apart Open Clear h = refl
graver-apart Open Open Clear = refl
graver-apart Open Open Open = refl
graver-apart Open Open Stranded = refl
graver-apart Open Open Stuck = refl
graver-apart Open Stranded h = refl
graver-apart Open Stuck h = refl
graver-apart Stranded g h = refl
graver-apart Stuck g h = refl

gravest-more : (fs : List Finding) (f : Finding) → gravest (fs ++ f ∷ []) ≡ graver (gravest fs) f
gravest-more [] f = graver-clear f
gravest-more (g ∷ fs) f = ap (graver g) (gravest-more fs f) ∙ sym (graver-apart g (gravest fs) f)

-- JOURNALS

first-more : (kept : List (Option (List ℕ))) (one : Option (List ℕ)) → first_of (kept ++ one ∷ []) ≡ first_of (first_of kept ∷ one ∷ [])
first-more [] None = refl
first-more [] (Some lines) = refl
first-more (None ∷ kept) one = first-more kept one
first-more (Some lines ∷ kept) one = refl

-- ONE MORE

each-more : (s : Script) (limit : ℕ) (prints : List Print) (parts : List SoughtText) (print : Print) (part : SoughtText) → TellEach s limit prints parts → TellsPrinted s limit print part →
    TellEach s limit (prints ++ print ∷ []) (parts ++ part ∷ [])
each-more s limit [] [] print part each tells = (tells, tt)
each-more s limit [] (other ∷ parts) print part each tells = absurd each
each-more s limit (other ∷ prints) [] print part each tells = absurd each
each-more s limit (p ∷ prints) (t ∷ parts) print part each tells = (each.0, each-more s limit prints parts print part each.1 tells)

pub tells-more : (s : Script) (limit : ℕ) (prints : List Print) (print : Print) (told part new : SoughtText) → TellsPrints s limit prints told → TellsPrinted s limit print part → IsWithPart told part new →
    TellsPrints s limit (prints ++ print ∷ []) new
tells-more s limit prints print told part new tells one with = record {
  parts = tells.parts ++ part ∷ [];
  each = each-more s limit prints tells.parts print part tells.each one;
  is =
      with.text ∙ ap (λ (text : List ℕ). text ++ part.text.items) tells.is
      ∙ ap (λ (text : List ℕ). flat_map (λ (t : SoughtText). t.text.items) tells.parts ++ text) (sym (append-nil part.text.items))
      ∙ sym (flat_map-append (λ (t : SoughtText). t.text.items) tells.parts (part ∷ []));
  kept =
      with.journal ∙ ap (λ (kept : Option (List ℕ)). first_of (kept ∷ bytes_of part.journal ∷ [])) tells.kept
      ∙ sym (first-more (map (λ (t : SoughtText). bytes_of t.journal) tells.parts) (bytes_of part.journal))
      ∙ sym (ap first_of (map-append (λ (t : SoughtText). bytes_of t.journal) tells.parts (part ∷ [])));
  so =
      with.finding ∙ ap (λ (f : Finding). graver f part.finding) tells.so
      ∙ sym (gravest-more (map (λ (t : SoughtText). t.finding) tells.parts) part.finding)
      ∙ sym (ap gravest (map-append (λ (t : SoughtText). t.finding) tells.parts (part ∷ [])));
}

pub tells-none : (s : Script) (limit : ℕ) (told : SoughtText) → told.text.items ≡ [] → bytes_of told.journal ≡ None → told.finding ≡ Clear → TellsPrints s limit [] told
tells-none s limit told text journal finding = record { parts = []; each = tt; is = text; kept = journal; so = finding }
