use Rattle.pcml_chart.proofs.Parting.{marks_apart}
use Rattle.pcml_chart.proofs.Plainly.{names_plain, messages_plain, causes_plain, printed_plain, offers_plain}
use Rattle.pcml_chart.proofs.chart.chart_laws.Goals as goal

pub returns : goal.returns
returns c = record {
  apart = marks_apart;
  names = names_plain;
  messages = messages_plain;
  causes = causes_plain;
  printed = printed_plain;
  offers = offers_plain;
}
