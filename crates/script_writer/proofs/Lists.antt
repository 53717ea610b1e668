-- The texts of channels and processes, one more at a time.
use Rattle.std.proofs.Common.{◌≡◌, ℕ, zero, suc, ◌+◌, ◌<◌, List, [], ◌∷◌, ◌++◌, length, take, map, get_or, codes, Some, sym, ap, ◌∙◌, append_assoc, add-one}
use Rattle.std.specs.Prelude.{slice_get}
use Rattle.std.specs.Option.{option_map}
use Rattle.std.proofs.lemmas.Option.{slice_get-map}
use Rattle.std.proofs.lemmas.List.{append-nil, map_more}
use Rattle.script_tree.specs.declared.process.Proc.{Proc as SeenProc}
use Rattle.script_tree.specs.Processes.{Proc, proc_of}
use Rattle.script_writer.specs.Texts.{channels_text, process_text, processes_text}

-- the names of processes
pub get_names : (ps : List Proc) (k : ℕ) → slice_get (map (λ (p : Proc). p.name) ps) k ≡ option_map (λ (p : Proc). p.name) (slice_get ps k)
get_names ps k = slice_get-map (λ (p : Proc). p.name) ps k

channels_suc : (names : List (List ℕ)) (i : ℕ) (name : List ℕ) → Some name ≡ slice_get names i → channels_text (take (suc i) names) ≡ channels_text (take i names) ++ (codes "channel " ++ name ++ (32 ∷ 59 ∷ 10 ∷ []))
channels_suc [] i name e = absurd cc
channels_suc (x ∷ names) zero name e =
    let same : name ≡ x = cc in
    append-nil (codes "channel " ++ x ++ (32 ∷ 59 ∷ 10 ∷ [])) ∙ ap (λ (y : List ℕ). codes "channel " ++ y ++ (32 ∷ 59 ∷ 10 ∷ [])) (sym same)
channels_suc (x ∷ names) (suc i) name e =
    rw (channels_suc names i name e) (sym (append_assoc (codes "channel " ++ x ++ (32 ∷ 59 ∷ 10 ∷ [])) (channels_text (take i names)) (codes "channel " ++ name ++ (32 ∷ 59 ∷ 10 ∷ []))))

pub channels_more : (names : List (List ℕ)) (i : ℕ) (name before : List ℕ) → Some name ≡ slice_get names i
    → before ++ channels_text (take (i + 1) names) ≡ before ++ channels_text (take i names) ++ codes "channel " ++ name ++ (32 ∷ 59 ∷ 10 ∷ [])
channels_more names i name before e = rw (add-one, channels_suc names i name e) (simp append_assoc)

processes_append : (channels names : List (List ℕ)) (ps : List Proc) (p : Proc) → processes_text channels names (ps ++ p ∷ []) ≡ processes_text channels names ps ++ process_text channels names p
processes_append channels names [] p = append-nil (process_text channels names p)
processes_append channels names (x ∷ ps) p = rw (processes_append channels names ps p) (sym (append_assoc (process_text channels names x) (processes_text channels names ps) (process_text channels names p)))

pub processes_more : (channels names : List (List ℕ)) (ps : List SeenProc) (i : ℕ) (p : SeenProc) (before : List ℕ) → i < length ps → p ≡ get_or ps i p
    → before ++ processes_text channels names (map proc_of (take (i + 1) ps)) ≡ before ++ processes_text channels names (map proc_of (take i ps)) ++ process_text channels names (proc_of p)
processes_more channels names ps i p before h e =
    let one : map proc_of (take (i + 1) ps) ≡ map proc_of (take i ps) ++ proc_of p ∷ [] = map_more proc_of ps i p h ∙ ap (λ (y : SeenProc). map proc_of (take i ps) ++ proc_of y ∷ []) (sym e) in
    rw one (rw (processes_append channels names (map proc_of (take i ps)) (proc_of p)) (sym (append_assoc before (processes_text channels names (map proc_of (take i ps))) (process_text channels names (proc_of p)))))
