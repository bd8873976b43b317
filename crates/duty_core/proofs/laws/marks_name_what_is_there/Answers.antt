use Rattle.duty_core.specs.Laws.MarkLaws.{split_names_run, split_has_berth, defer_has_no_split, deferral_names_day, deferral_has_way, au_unmarked}
use Rattle.duty_core.proofs.laws.marks_name_what_is_there.Goals as goal

pub returns : goal.returns
returns c = record {
  run = split_names_run c.args.params;
  berth = split_has_berth c.args.params;
  no_split = λ first h marks at k m d. defer_has_no_split c.args.params first h marks at d k m;
  lost_day = deferral_names_day c.args.params;
  defer_way = deferral_has_way c.args.params;
  australia = au_unmarked;
}
