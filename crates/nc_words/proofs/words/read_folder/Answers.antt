use Rattle.nc_words.proofs.words.read_folder.Goals as goal

pub returns : goal.returns
returns c = c.in_ok-it.ensures
