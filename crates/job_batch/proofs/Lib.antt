mod BatchLemmas
