mod SoundQueries
