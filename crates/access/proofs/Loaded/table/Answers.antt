use Rattle.access.proofs.Loaded.table.Goals as goal

pub table-requires : goal.table-requires
table-requires c = (c.args.self.now.planned.checked, c.requires)

pub returns : goal.returns
returns c = c.table.ensures
