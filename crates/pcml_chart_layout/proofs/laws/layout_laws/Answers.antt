use Rattle.pcml_chart_layout.proofs.Clearing.{stamps_clear, labels_clear, names_clear, others_clear, stands_clear, offers_clear}
use Rattle.pcml_chart_layout.proofs.laws.layout_laws.Goals as goal

pub returns : goal.returns
returns c = record {
  stamps = stamps_clear;
  labels = labels_clear;
  names = names_clear;
  others = others_clear;
  stands = stands_clear;
  offers = offers_clear;
}
