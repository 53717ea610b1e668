-- A picture in its layout.
use Rattle.std.proofs.Common.{◌≡◌, ℕ, List, [], ◌++◌, length, ap, ◌∙◌}
use Rattle.pcml_chart_layout.specs.Feet.{lines_below}
use Rattle.pcml_chart_layout.specs.Places.{Layout, page_height}
use Rattle.pcml_chart_layout.specs.Widths.{page_width}
use Rattle.pcml_chart.specs.Chart.{Picture, feet_below, front, gaps_of, heading, heading_of, laid_out, lifelines, low_of, marks, page_end, page_front, picture_text}

-- one part behind another
pub laid_so : (p : Picture) (l : Layout) (width tall low : ℕ) (words none fronted headed lined marked footed whole : List ℕ) → none ≡ [] → width ≡ l.width → tall ≡ page_height (low_of p) (lines_below p.own p.feet)
    → words ≡ heading p → low ≡ low_of p → fronted ≡ none ++ page_front width tall → headed ≡ fronted ++ heading_of words → lined ≡ headed ++ lifelines p.names l low
    → marked ≡ lined ++ marks p.names p.stamps l p.commits → footed ≡ marked ++ feet_below p.names l p.feet low → whole ≡ footed ++ page_end → whole ≡ laid_out p l
laid_so p l width tall low words none fronted headed lined marked footed whole empty wide high told bottom first second third fourth fifth sixth =
    let in_front : fronted ≡ front l.width (low_of p) (lines_below p.own p.feet) = first ∙ (λ i. empty i ++ page_front (wide i) (high i)) in
    let to_heading : headed ≡ front l.width (low_of p) (lines_below p.own p.feet) ++ heading_of (heading p) = second ∙ (λ i. in_front i ++ heading_of (told i)) in
    let to_lines : lined ≡ front l.width (low_of p) (lines_below p.own p.feet) ++ heading_of (heading p) ++ lifelines p.names l (low_of p) =
    third ∙ (λ i. to_heading i ++ lifelines p.names l (bottom i)) in
    sixth ∙ (λ i. (fifth ∙ (λ j. (fourth ∙ ap (λ (t : List ℕ). t ++ marks p.names p.stamps l p.commits) to_lines) j ++ feet_below p.names l p.feet (bottom j))) i ++ page_end)

pub picture_laid : (p : Picture) (l : Layout) (long : ℕ) (text : List ℕ) → l ≡ record { own = p.own; gaps = gaps_of p; width = page_width p.own (gaps_of p) long } → long ≡ length (heading p)
    → text ≡ laid_out p l → text ≡ picture_text p
picture_laid p l long text is told drawn =
    let of_width : ℕ → Layout = λ n. record { own = p.own; gaps = gaps_of p; width = page_width p.own (gaps_of p) n } in
    drawn ∙ ap (laid_out p) (is ∙ ap of_width told)
