use Rattle.dnp_points.proofs.Table.{no_floats}
use Rattle.dnp_points.proofs.group.push_analogs.Goals as goal

pub returns-in_default : goal.returns-in_default
returns-in_default c = record {
  told = search (no_floats c.args.objects.now.part.now c.args.objects.now.header.now c.args.objects.now.outstation
      c.args.objects.now.common c.args.found.now.items c.requires.inside.within c.requires.group);
  memory = tt;
}
