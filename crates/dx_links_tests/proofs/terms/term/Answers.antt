use Rattle.dx_links_tests.proofs.terms.term.Goals as goal

pub returns-in-File : goal.returns-in-File
returns-in-File c = c.file.ensures c.args.tags.now
