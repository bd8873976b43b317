use Rattle.text_parts.specs.Laws.OneText.{parts_are_one_text}
use Rattle.log_graph.specs.Graph.{graph_lines}
use Rattle.log_graph.proofs.laws.graphs_are_one.Goals as goal

pub returns : goal.returns
returns c = λ first h one other. parts_are_one_text (graph_lines c.args.params first h) one other
